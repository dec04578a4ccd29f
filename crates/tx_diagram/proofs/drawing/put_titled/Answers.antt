use Rattle.std.proofs.Common.{◌++◌, codes}
use Rattle.std.specs.List.{flat_map}
use Rattle.tx_text.proofs.Texts.{if_ok}
use Rattle.tx_diagram.specs.Drawings.{quoted, arrow_text}
use Rattle.tx_verdict_text.proofs.Lines.{after}
use Rattle.tx_diagram.proofs.drawing.put_titled.Goals as goal

pub returns : goal.returns
returns c =
    let title = quoted c.args.title.now in
    let arrows = flat_map (arrow_text c.args.history.now) c.args.steps.now in
    let end = codes "}\n" in
    let brace = codes " {\n" in
    if_ok c.extend_from_slice-3.result _ _ _ c.extend_from_slice-3.ensures.items (λ e.
    after c.args.out.now.items (codes "digraph ") (title ++ (brace ++ (arrows ++ end)))
    c.in_ok-extend_from_slice.ensures.items
    (after c.extend_from_slice.new.self.items title (brace ++ (arrows ++ end)) c.in_ok-put_quoted.ensures
    (after c.put_quoted.new.out.items brace (arrows ++ end) c.in_ok-extend_from_slice-2.ensures.items
    (after c.extend_from_slice-2.new.self.items arrows end c.in_ok-put_arrows.ensures e))))
