use Rattle.std.proofs.Common.{◌++◌, codes}
use Rattle.std.specs.List.{flat_map}
use Rattle.tx_text.proofs.Texts.{if_ok}
use Rattle.tx_diagram.specs.Drawings.{drawn_byte}
use Rattle.tx_verdict_text.proofs.Lines.{after}
use Rattle.tx_diagram.proofs.drawing.put_quoted.Goals as goal

pub returns : goal.returns
returns c =
    let quote = codes "\"" in
    let text = flat_map drawn_byte c.args.text.now in
    if_ok c.extend_from_slice-2.result _ _ _ c.extend_from_slice-2.ensures.items (λ e.
    after c.args.out.now.items quote (text ++ quote) c.in_ok-extend_from_slice.ensures.items
    (after c.extend_from_slice.new.self.items text quote c.in_ok-put_bytes.ensures e))
