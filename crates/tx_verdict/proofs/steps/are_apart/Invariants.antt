-- Of those so far no two neighbours are anti-dependencies.
use Rattle.std.proofs.Common.{◌≡◌, ℕ, ◌+◌, ◌<◌}
use Rattle.tx_verdict.specs.declared.verdict.EdgeKind.TheVariants.{Rw}
use Rattle.tx_verdict.specs.Steps.{step_at}
use Rattle.tx_verdict.proofs.steps.are_apart.Given as goal

abbrev pub invariant-loop-i : goal.invariant-loop-i
invariant-loop-i l = (i : ℕ) → i + 1 < l.i → (step_at l.steps i).edge ≡ Rw → (step_at l.steps (i + 1)).edge ≡ Rw → ⊥
