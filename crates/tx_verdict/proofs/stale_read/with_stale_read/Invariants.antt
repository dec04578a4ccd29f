-- All so far are steps.
use Rattle.tx_verdict.specs.Steps.{AreSteps}
use Rattle.tx_verdict.proofs.stale_read.with_stale_read.Given as goal

abbrev pub invariant-loop-i : goal.invariant-loop-i
invariant-loop-i l = AreSteps l.case.recording.now l.case.question.orders l.told.items
