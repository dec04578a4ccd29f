-- What the versions of all keys say, as the machine keeps them.
use Rattle.std.specs.Prelude.{◌≡◌, ℕ, ◌≤◌, Option, Some, None, length, IsTrue}
use Rattle.std.specs.Cmp.Lexicographic.{slice_cmp}
use Rattle.std.specs.Ordering.{nat_cmp}
use Rattle.std.specs.BTreeMap as tree
use Rattle.std.specs.BTreeMap.{BTreeMap}
use Rattle.tx_types.specs.declared.key.Key.{Key}
use Rattle.tx_types.specs.declared.value.Value.{Value}
use Rattle.tx_machine.specs.declared.step.ScanRead.{ScanRead}
use Rattle.tx_machine.specs.declared.versions.KeyHistory.{KeyHistory}
use Rattle.tx_types.specs.Keys.{IsRising, value_in}
use Rattle.tx_machine.specs.Keys.{covered}
use Rattle.tx_machine.specs.Versions.{Versions, Fates, SeenIn}

-- what is kept of each key
abbrev pub Index : Type 0
Index = BTreeMap Key KeyHistory

-- what is kept of a key, if it has any versions
abbrev pub history_of : Index → Key → Option KeyHistory
history_of index k = tree.get (slice_cmp nat_cmp) index k

-- the versions of a key, if it has any
abbrev pub versions_in : Option KeyHistory → Option Versions
versions_in None = None
versions_in (Some history) = Some history.versions

-- those of a key of the index
abbrev pub versions_of : Index → Key → Option Versions
versions_of index k = versions_in (history_of index k)

-- the greatest read of a key that committed inserts of it left, if there is one
abbrev pub insert_read_in : Option KeyHistory → Option ℕ
insert_read_in None = None
insert_read_in (Some history) = history.insert_read

-- it is r
abbrev pub IsInsertRead : Index → Key → ℕ → Type 0
IsInsertRead index k r = insert_read_in (history_of index k) ≡ Some r

-- what a read at r sees of a key that may have versions
abbrev pub SeenOf : Option Versions → Fates → ℕ → Option Value → Type 0
SeenOf None fates r found = found ≡ None
SeenOf (Some versions) fates r found = SeenIn versions fates r found

-- what a read of k at r sees
abbrev pub Shows : Index → Fates → Key → ℕ → Option Value → Type 0
Shows index fates k r found = SeenOf (versions_of index k) fates r found

-- what a scan sees: the first visible keys of its range in order, at most as many as its limit
pub record ShowsRows (index : Index) (fates : Fates) (s : ScanRead) : Type 0 where
  pub rising : IsRising s.rows
  pub within : (k : Key) (v : Value) → value_in s.rows k ≡ Some v → IsTrue (covered s k)
  pub upto : length s.rows ≤ s.limit
  pub each : (k : Key) → IsTrue (covered s k) → Shows index fates k s.at (value_in s.rows k)
