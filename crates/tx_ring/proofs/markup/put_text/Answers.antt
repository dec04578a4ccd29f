use Rattle.std.proofs.Common.{◌++◌, ap, ◌∙◌}
use Rattle.tx_ring.specs.Markup.{marked_byte}
use Rattle.tx_ring.proofs.Pieces.{each_more_behind}
use Rattle.tx_ring.proofs.markup.put_text.Goals as goal

pub loop-i-preserved : goal.loop-i-preserved
loop-i-preserved c =
    let f = marked_byte c.args.text.now in
    c.in_ok-put_marked.ensures ∙ ap (λ t. t ++ f c.loop-i.i) c.loop-i.invariant
    ∙ each_more_behind f c.args.out.now.items c.loop-i.i
