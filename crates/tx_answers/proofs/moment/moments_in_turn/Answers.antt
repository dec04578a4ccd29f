use Rattle.std.proofs.Common.{◌++◌, ap, ◌∙◌}
use Rattle.tx_answers.specs.Traces.{moments_at}
use Rattle.tx_answers.proofs.Pieces.{each_more}
use Rattle.tx_answers.proofs.moment.moments_in_turn.Goals as goal

pub loop-txn-preserved : goal.loop-txn-preserved
loop-txn-preserved c =
    let f = moments_at c.args.timestamps.now in
    c.in_ok-put_moments.ensures ∙ ap (λ t. t ++ f c.loop-txn.txn) c.loop-txn.invariant ∙ each_more f c.loop-txn.txn
