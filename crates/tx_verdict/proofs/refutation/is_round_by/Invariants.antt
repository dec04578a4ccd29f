-- Those so far are so.
use Rattle.std.proofs.Common.{ℕ, ◌<◌}
use Rattle.tx_verdict.specs.Steps.{step_at}
use Rattle.tx_verdict.specs.Refutations.{IsStepBy}
use Rattle.tx_verdict.proofs.refutation.is_round_by.Given as goal

abbrev pub invariant-loop-i : goal.invariant-loop-i
invariant-loop-i l = (i : ℕ) → i < l.i → IsStepBy l.case.recording.now l.case.question.orders l.known (step_at
    l.steps i)
