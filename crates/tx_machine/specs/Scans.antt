-- What the rows of a scan are checked against, one after the other.
use Rattle.std.specs.Prelude.{◌≡◌, ◌⊎◌, ℕ, Some, None, IsTrue}
use Rattle.std.specs.Cmp.Lexicographic.{slice_cmp}
use Rattle.std.specs.Ordering.{nat_cmp}
use Rattle.std.specs.declared.ops.Bound.{Bound}
use Rattle.std.specs.declared.ops.Bound.TheVariants.{Excluded}
use Rattle.std.specs.BTreeMap.Range.{IsInRange}
use Rattle.tx_types.specs.declared.key.Key.{Key}
use Rattle.tx_types.specs.declared.mutation.KeyValue.{KeyValue}
use Rattle.tx_machine.specs.declared.step.ScanRead.{ScanRead}
use Rattle.tx_types.specs.Keys.{value_in}
use Rattle.tx_machine.specs.Keys.{covered}
use Rattle.tx_machine.specs.Versions.{Fates}
use Rattle.tx_machine.specs.Shown.{Index, Shows}

-- k lies inside a lower bound and below a key
abbrev pub IsKeyWithin : Bound Key → Key → Key → Type 0
IsKeyWithin from to k = IsInRange (slice_cmp nat_cmp) from (Excluded to) k

-- no key from a bound up to a key shows a value
abbrev pub IsBare : Index → Fates → Bound Key → Key → ℕ → Type 0
IsBare index fates from to r = (k : Key) → IsKeyWithin from to k → Shows index fates k r None

-- from a bound on, the row's key is the first of the scan's range that shows a value, and
-- it shows the row's
pub record IsNextRow (index : Index) (fates : Fates) (s : ScanRead) (from : Bound Key) (row : KeyValue) : Type 0 where
  pub within : IsKeyWithin from s.to row.key
  pub bare : IsBare index fates from row.key s.at
  pub shown : Shows index fates row.key s.at (Some row.value)

-- a read sees k otherwise than a row says: k lies below it, from a bound on, and shows a value, or
-- is the row's and shows another
abbrev pub DiffersBefore : Index → Fates → ℕ → Bound Key → KeyValue → Key → Type 0
DiffersBefore index fates r from row k = (IsKeyWithin from row.key k × (Shows index fates k r None → ⊥))
    ⊎ ((k ≡ row.key) × (Shows index fates k r (Some row.value) → ⊥))

-- a scan covers k, and a read sees k otherwise than its rows say
abbrev pub Differs : Index → Fates → ScanRead → Key → Type 0
Differs index fates s k = IsTrue (covered s k) × (Shows index fates k s.at (value_in s.rows k) → ⊥)
