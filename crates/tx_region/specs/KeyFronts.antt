-- Numbers that tell keys by their first eight bytes.
-- Of public calls only `fronts` and `route_by` cite it, and a fact of `Store`.
use Rattle.std.specs.Prelude.{◌≡◌, ℕ, ◌<◌, true, false, List, length, slice_index_or}
use Rattle.tx_types.specs.declared.key.Key.{Key}
use Rattle.tx_types.specs.Fronts.{AreBytes, front}
use Rattle.tx_types.specs.Keys.{key_le}

-- a number tells a key from those whose fronts differ from it: those of a smaller front come before
-- it, and those of a greater one after it
abbrev pub TellsApart : Key → ℕ → Type 0
TellsApart bound f = (k : Key) → AreBytes k → (front k < f → key_le bound k ≡ false)
    × (f < front k → key_le bound k ≡ true)

-- so many numbers tell the keys beside which they stand
abbrev pub TellsUpto : ℕ → List Key → List ℕ → Type 0
TellsUpto n bounds fronts = (i : ℕ) (d : Key) → i < n
    → TellsApart (slice_index_or bounds i d) (slice_index_or fronts i 0)

-- a number beside each key, which tells it
abbrev pub AreFronts : List Key → List ℕ → Type 0
AreFronts bounds fronts = (length fronts ≡ length bounds) × TellsUpto (length bounds) bounds fronts
