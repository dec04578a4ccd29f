-- By a view of the writer's own.
use Rattle.tx_verdict.proofs.Chains.{based_first, based_next}
use Rattle.tx_verdict.proofs.chain.is_viewed.Goals as goal

pub returns-then-i-eq0 : goal.returns-then-i-eq0
returns-then-i-eq0 c is = based_first c.args.case.now.recording.now c.args.key c.args.writers.now c.args.i
    c.if-i-eq0.true
    (c.sees_nothing.ensures is)

pub returns : goal.returns
returns c is = based_next c.args.case.now.recording.now c.args.key c.args.writers.now c.args.i c.if-i-eq0.false
    (c.sees_writer.ensures is)
