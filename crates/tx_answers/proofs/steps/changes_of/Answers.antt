use Rattle.std.proofs.Common.{◌++◌, ap, ◌∙◌}
use Rattle.tx_answers.specs.Traces.{change_at}
use Rattle.tx_answers.proofs.Pieces.{each_more}
use Rattle.tx_answers.proofs.steps.changes_of.Goals as goal

pub loop-i-preserved : goal.loop-i-preserved
loop-i-preserved c =
    let f = change_at c.args.history.now c.args.ops.now in
    c.in_ok-put_change_at.ensures ∙ ap (λ t. t ++ f c.loop-i.i) c.loop-i.invariant ∙ each_more f c.loop-i.i
