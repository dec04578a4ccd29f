-- All so far are steps.
use Rattle.tx_verdict.specs.Steps.{AreSteps}
use Rattle.tx_verdict.proofs.steps.steps_of.Given as goal

abbrev pub invariant-loop-i : goal.invariant-loop-i
invariant-loop-i l = AreSteps l.recording l.question.orders l.steps.items
