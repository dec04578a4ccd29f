-- None of those so far is by the clock.
use Rattle.std.proofs.Common.{ℕ, ◌<◌, ◌≢◌}
use Rattle.tx_verdict.specs.declared.verdict.EdgeKind.TheVariants.{Rt}
use Rattle.tx_verdict.specs.Steps.{step_at}
use Rattle.tx_verdict.proofs.steps.has_clock.Given as goal

abbrev pub invariant-loop-i : goal.invariant-loop-i
invariant-loop-i l = (i : ℕ) → i < l.i → (step_at l.steps i).edge ≢ Rt
