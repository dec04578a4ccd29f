use Rattle.std.proofs.Common.{◌++◌, get_or, ap, ◌∙◌}
use Rattle.tx_html.specs.Pages.{shielded_byte}
use Rattle.tx_html.proofs.Pieces.{piece_more}
use Rattle.tx_html.proofs.shield.put_shielded.Goals as goal

pub loop-byte-preserved : goal.loop-byte-preserved
loop-byte-preserved c =
    let xs = c.args.text.now in
    let at = c.loop-byte.byte-index in
    c.in_ok-put_byte.ensures ∙ ap (λ t. t ++ shielded_byte (get_or xs at 0)) c.loop-byte.invariant
    ∙ piece_more shielded_byte c.args.out.now.items xs at 0 c.loop-byte-test.true
