use Rattle.std.proofs.Common.{◌++◌, ap, ◌∙◌}
use Rattle.tx_answers.specs.Traces.{read_at}
use Rattle.tx_answers.proofs.Pieces.{each_more_behind}
use Rattle.tx_answers.proofs.steps.put_reads.Goals as goal

pub loop-i-preserved : goal.loop-i-preserved
loop-i-preserved c =
    let f = read_at c.args.history.now c.args.at c.args.ops.now in
    c.in_ok-put_read_at.ensures ∙ ap (λ t. t ++ f c.loop-i.i) c.loop-i.invariant
    ∙ each_more_behind f c.args.steps.now.items c.loop-i.i
