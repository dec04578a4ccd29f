use Rattle.std.proofs.Common.{◌++◌, ap, ◌∙◌}
use Rattle.tx_acts.specs.Ops.{value_at}
use Rattle.tx_ring.proofs.Pieces.{each_more_behind}
use Rattle.tx_acts.proofs.ops.put_values.Goals as goal

pub loop-i-preserved : goal.loop-i-preserved
loop-i-preserved c =
    let f = value_at c.args.history.now c.args.values.now in
    c.in_ok-put_value_at.ensures ∙ ap (λ t. t ++ f c.loop-i.i) c.loop-i.invariant
    ∙ each_more_behind f c.args.out.now.items c.loop-i.i
