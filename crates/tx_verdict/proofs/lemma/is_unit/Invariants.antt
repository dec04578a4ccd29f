-- Those so far.
use Rattle.std.proofs.Common.{◌≡◌, ◌⊎◌, ℕ, ◌<◌, get_or, Contains}
use Rattle.tx_verdict.specs.Refutations.{opposite, no_order}
use Rattle.tx_verdict.proofs.lemma.is_unit.Given as goal

abbrev pub invariant-loop-i : goal.invariant-loop-i
invariant-loop-i l = (i : ℕ) → i < l.i → (get_or l.clause i no_order ≡ l.left)
    ⊎ Contains l.known (opposite (get_or l.clause i no_order))
