-- Those so far lead to one another.
use Rattle.std.proofs.Common.{◌≡◌, ℕ, ◌+◌, ◌<◌}
use Rattle.tx_verdict.specs.Steps.{step_at}
use Rattle.tx_verdict.proofs.steps.is_round.Given as goal

abbrev pub invariant-loop-i : goal.invariant-loop-i
invariant-loop-i l = (i : ℕ) → i + 1 < l.i → (step_at l.steps i).to ≡ (step_at l.steps (i + 1)).from
