use Rattle.std.proofs.Common.{◌++◌, ap, ◌∙◌}
use Rattle.tx_acts.specs.Shown.{behind_at}
use Rattle.tx_ring.proofs.Pieces.{each_more_behind}
use Rattle.tx_acts.proofs.evidence.put_all.Goals as goal

pub loop-i-preserved : goal.loop-i-preserved
loop-i-preserved c =
    let f = behind_at c.args.history.now c.args.ops.now in
    c.in_ok-put_behind_at.ensures ∙ ap (λ t. t ++ f c.loop-i.i) c.loop-i.invariant
    ∙ each_more_behind f c.args.out.now.items c.loop-i.i
