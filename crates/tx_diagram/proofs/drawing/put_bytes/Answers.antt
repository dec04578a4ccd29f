use Rattle.std.proofs.Common.{◌++◌, get_or, ap, ◌∙◌}
use Rattle.tx_diagram.specs.Drawings.{drawn_byte}
use Rattle.tx_diagram.proofs.Pieces.{piece_more}
use Rattle.tx_diagram.proofs.drawing.put_bytes.Goals as goal

pub loop-byte-preserved : goal.loop-byte-preserved
loop-byte-preserved c =
    let xs = c.args.text.now in
    let at = c.loop-byte.byte-index in
    c.in_ok-put_byte.ensures ∙ ap (λ t. t ++ drawn_byte (get_or xs at 0)) c.loop-byte.invariant
    ∙ piece_more drawn_byte c.args.out.now.items xs at 0 c.loop-byte-test.true
