-- None of those so far.
use Rattle.std.proofs.Common.{◌≡◌, ℕ, ◌+◌, ◌<◌, slice_index}
use Rattle.tx_history.proofs.dependency.ww_in.Given as goal

abbrev pub invariant-loop-i : goal.invariant-loop-i
invariant-loop-i l = (j : ℕ) → j + 1 < l.i → slice_index l.writers j ≡ l.from → slice_index l.writers (j + 1) ≡ l.to → ⊥
