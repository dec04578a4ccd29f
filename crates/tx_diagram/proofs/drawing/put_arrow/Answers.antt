use Rattle.std.proofs.Common.{◌≡◌, ◌++◌, codes, ap, ◌∙◌}
use Rattle.serde_json.specs.Written.{compact_text}
use Rattle.tx_text.proofs.Texts.{if_ok}
use Rattle.tx_verdict_text.specs.Words.{id_data}
use Rattle.tx_diagram.specs.Drawings.{quoted, label_text}
use Rattle.tx_verdict_text.proofs.Lines.{after}
use Rattle.tx_diagram.proofs.drawing.put_arrow.Goals as goal

pub returns : goal.returns
returns c =
    let h = c.args.history.now in
    let step = c.args.step in
    let from = compact_text (id_data h step.from) in
    let to = compact_text (id_data h step.to) in
    let label = quoted (label_text h step step.key) in
    let drawn : c.put_quoted.new.out.items ≡ c.extend_from_slice-3.new.self.items ++ label =
    c.in_ok-put_quoted.ensures
    ∙ ap (λ t. c.extend_from_slice-3.new.self.items ++ quoted t) (c.as_slice.ensures.value ∙ c.in_ok-label.ensures) in
    let end = codes "];\n" in
    let labelled = codes " [label=" ++ (label ++ end) in
    let arrow = codes " -> " ++ (to ++ labelled) in
    if_ok c.extend_from_slice-4.result _ _ _ c.extend_from_slice-4.ensures.items (λ e.
    after c.args.out.now.items (codes "  ") (from ++ arrow) c.in_ok-extend_from_slice.ensures.items
    (after c.extend_from_slice.new.self.items from arrow c.in_ok-put_id.ensures
    (after c.put_id.new.out.items (codes " -> ") (to ++ labelled) c.in_ok-extend_from_slice-2.ensures.items
    (after c.extend_from_slice-2.new.self.items to labelled c.in_ok-put_id-2.ensures
    (after c.put_id-2.new.out.items (codes " [label=") (label ++ end) c.in_ok-extend_from_slice-3.ensures.items
    (after c.extend_from_slice-3.new.self.items label end drawn e))))))
