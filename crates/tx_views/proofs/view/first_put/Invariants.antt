-- Those so far are reads.
use Rattle.std.proofs.Common.{◌≡◌, ℕ, ◌≤◌, List, take}
use Rattle.tx_recording.specs.Explanations.{after}
use Rattle.tx_views.proofs.view.first_put.Given as goal

abbrev pub invariant-loop-i : goal.invariant-loop-i
invariant-loop-i l = (p k : ℕ) (xs : List ℕ) → p ≤ l.i → after (take p l.ops) k xs ≡ xs
