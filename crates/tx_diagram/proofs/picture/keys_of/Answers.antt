use Rattle.std.proofs.Common.{[], ◌++◌, ap, ◌∙◌}
use Rattle.tx_diagram.specs.Pictures.{key_at}
use Rattle.tx_ring.proofs.Pieces.{each_more_behind}
use Rattle.tx_diagram.proofs.picture.keys_of.Goals as goal

pub loop-i-preserved : goal.loop-i-preserved
loop-i-preserved c =
    let f = key_at c.args.steps.now in
    c.in_ok-put_key_at.ensures ∙ ap (λ t. t ++ f c.loop-i.i) c.loop-i.invariant
    ∙ each_more_behind f [] c.loop-i.i
