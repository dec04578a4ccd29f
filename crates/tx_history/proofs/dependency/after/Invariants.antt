-- None of the pairs so far.
use Rattle.std.proofs.Common.{◌≡◌, ℕ, ◌<◌}
use Rattle.tx_history.specs.Additions.{pair_at}
use Rattle.tx_history.proofs.dependency.after.Given as goal

abbrev pub invariant-loop-i : goal.invariant-loop-i
invariant-loop-i l = (j : ℕ) → j < l.i → (pair_at l.recorded j).earlier ≡ l.from → (pair_at l.recorded j).later ≡ l.to
    → ⊥
