-- Those so far lead from one transaction to another.
use Rattle.std.proofs.Common.{ℕ, ◌<◌, ◌≢◌}
use Rattle.tx_verdict.specs.Steps.{step_at}
use Rattle.tx_verdict.proofs.steps.are_of_two.Given as goal

abbrev pub invariant-loop-i : goal.invariant-loop-i
invariant-loop-i l = (i : ℕ) → i < l.i → (step_at l.steps i).from ≢ (step_at l.steps i).to
