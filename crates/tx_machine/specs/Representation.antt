-- Which table the machine's maps represent.
use Rattle.std.specs.Prelude.{◌≡◌, ◌≢◌, ◌⊎◌, ℕ, ◌<◌, ◌≤◌, true, cond, ◌==◌, bytes_eq, List, [], ◌∷◌, Option, Some, None, is_some, Contains}
use Rattle.std.specs.Ordering.{nat_cmp}
use Rattle.std.specs.BTreeMap as tree
use Rattle.tx_types.specs.declared.key.Key.{Key}
use Rattle.tx_types.specs.declared.mutation.Change.{Change}
use Rattle.tx_types.specs.declared.mutation.Mutation.{Mutation}
use Rattle.tx_types.specs.declared.mutation.Fate.{Fate}
use Rattle.tx_machine.specs.declared.versions.Version.{Version}
use Rattle.tx_machine.specs.declared.machine.TxnStage.{TxnStage}
use Rattle.tx_machine.specs.declared.machine.TxnStage.TheVariants.{Drawn, Begun, Declared}
use Rattle.tx_machine.specs.declared.machine.Machine.{Machine}
use Rattle.tx_machine.specs.declared.reads.Reads.{Reads}
use Rattle.tx_machine.specs.declared.commit.Block.{Block}
use Rattle.tx_machine.specs.declared.commit.Block.TheVariants as block
use Rattle.tx_machine.specs.declared.step.Step.{Step}
use Rattle.tx_types.specs.Keys.{IsVisible, IsInsert}
use Rattle.tx_machine.specs.Keys.{mutation_at, inserted, IsDistinct}
use Rattle.tx_machine.specs.Machine.{State, Open, Done, Row, Rows, Reading, Table, Commits, Overlap, IsRead, Admits, after}
use Rattle.tx_machine.specs.Versions.{Fates, Versions, Listed, IsOrderly}
use Rattle.tx_machine.specs.Noted.{IsNoted, Grows}
use Rattle.tx_machine.specs.Shown.{Index, versions_of, IsInsertRead, Shows}

-- the state of a transaction that may have ended
abbrev pub state_of : Option Fate → State
state_of None = Open
state_of (Some fate) = Done fate

-- the row of a transaction that has come so far
abbrev pub row_of : Option TxnStage → Option Fate → Option Row
row_of None fate = None
row_of (Some Drawn) fate = None
row_of (Some Begun) fate = Some record { changes = None; state = state_of fate }
row_of (Some (Declared set)) fate = Some record { changes = Some set; state = state_of fate }

-- the version of a key at a timestamp, if one is listed
abbrev pub version_in : Option Versions → ℕ → Option Version
version_in None c = None
version_in (Some versions) c = tree.get nat_cmp versions c

abbrev pub version_of : Index → Key → ℕ → Option Version
version_of index k c = version_in (versions_of index k) c

-- each commit is listed, each version listed is what its transaction declared, and no
-- two commits overlap
pub record ListsCommits (rows : Rows) (versions : Key → ℕ → Option Version) : Type 0 where
  pub listed : (k : Key) (u c : ℕ) (m : Mutation) → Commits rows k u c m
      → versions k c ≡ Some record { start = u; mutation = m }
  pub declared : (k : Key) (c : ℕ) (v : Version) → versions k c ≡ Some v
      → (set : List Change) × (state : State) × (rows v.start ≡ Some record { changes = Some set; state = state })
      × (mutation_at set k ≡ Some v.mutation)
  pub above : (k : Key) (u c : ℕ) (m : Mutation) → Commits rows k u c m → u < c
  pub apart : (k : Key) (u c v d : ℕ) (m n : Mutation) → Commits rows k u c m → Commits rows k v d n → u ≢ v
      → Overlap u c v d → ⊥

-- the reads that are kept are those that were made, and of each key the greatest
pub record KeepsReads (reads : List Reading) (kept_at : Key → ℕ → Type 0) : Type 0 where
  pub made : (k : Key) (r : ℕ) → kept_at k r → IsRead reads k r
  pub kept : (k : Key) (r : ℕ) → IsRead reads k r → (s : ℕ) × (r ≤ s) × kept_at k s

-- what the maps say is what a table says
pub record TellsTable (last : ℕ) (stages : ℕ → Option TxnStage) (fates : ℕ → Option Fate)
    (versions : Key → ℕ → Option Version) (kept_at : Key → ℕ → Type 0) (table : Table) : Type 0 where
  pub last_is : table.last ≡ last
  pub drawn : (t : ℕ) → table.drawn t ≡ is_some (stages t)
  pub range : (t : ℕ) → table.drawn t ≡ true → t ≤ table.last
  pub row : (t : ℕ) → table.row t ≡ row_of (stages t) (fates t)
  pub ended : (t : ℕ) (fate : Fate) → fates t ≡ Some fate → table.row t ≢ None
  pub distinct : (t : ℕ) (set : List Change) (state : State)
      → table.row t ≡ Some record { changes = Some set; state = state } → IsDistinct set
  pub commits : ListsCommits table.row versions
  pub reads : KeepsReads table.reads kept_at

-- a read of k at r is kept: it was noted, or it is the greatest that committed inserts of k left
abbrev pub IsKept : Index → Reads → Key → ℕ → Type 0
IsKept index reads k r = IsNoted reads k r ⊎ IsInsertRead index k r

-- the machine represents a table
abbrev pub Represents : Machine → Table → Type 0
Represents machine table = TellsTable machine.last (tree.get nat_cmp machine.stages) (tree.get nat_cmp machine.fates)
    (version_of machine.index) (IsKept machine.index machine.reads) table

-- the machine makes the step: its table admits it, and the machine then represents the table after
abbrev pub Makes : Machine → Machine → Step → Type 0
Makes old new step = (table : Table) → Represents old table → Admits table step × Represents new (after table step)

-- its table does not admit the step
abbrev pub Refuses : Machine → Step → Type 0
Refuses old step = (table : Table) → Represents old table → Admits table step → ⊥

-- the machine represents what it represented
abbrev pub Keeps : Machine → Machine → Type 0
Keeps old new = (table : Table) → Represents old table → Represents new table

-- ---- parts of a step

-- all commits listed are in order on each key
abbrev pub InOrder : Index → Fates → Type 0
InOrder index fates = (k : Key) (versions : Versions) → versions_of index k ≡ Some versions → IsOrderly versions fates

-- a commit is listed on a key
abbrev pub ListedOn : Option Versions → Fates → ℕ → ℕ → Mutation → Type 0
ListedOn None fates u c m = ⊥
ListedOn (Some versions) fates u c m = Listed versions fates u c m

-- nothing forbids that a change is committed: no listed commit would overlap, no read at or above
-- covers what it puts or deletes, and of what it inserts a read at the start sees no value
pub record IsFree (index : Index) (fates : Fates) (reads : Reads) (t c : ℕ) (change : Change) : Type 0 where
  pub apart : (u d : ℕ) (m : Mutation) → ListedOn (versions_of index change.key) fates u d m → Overlap t c u d → ⊥
  pub unread : IsVisible change.mutation → (r : ℕ) → IsKept index reads change.key r → r < c
  pub fresh : IsInsert change.mutation → Shows index fates change.key t None

-- what forbids a change: a listed commit that would overlap, a read at the commit or above that
-- covers what it puts or deletes, or that a read at the start sees a value of what it inserts
abbrev pub Blocks : Index → Fates → Reads → ℕ → ℕ → Change → Block → Type 0
Blocks index fates reads t c change (block.Conflict by) =
    (m : Mutation) × ListedOn (versions_of index change.key) fates by.start by.commit m × Overlap t c by.start by.commit
Blocks index fates reads t c change (block.Read r) =
    IsVisible change.mutation × (c ≤ r) × IsKept index reads change.key r
Blocks index fates reads t c change block.Exists = IsInsert change.mutation × (Shows index fates change.key t None → ⊥)

-- each key of a write set has versions
abbrev pub HasVersions : Index → List Change → Type 0
HasVersions index set = (x : Change) → Contains set x → versions_of index x.key ≢ None

-- the inserts of a write set left a read of their keys at r, beside those before
abbrev pub AddsInserts : Index → Index → List Change → ℕ → Type 0
AddsInserts old new set r = Grows (IsInsertRead old) (IsInsertRead new) (inserted (Some set)) r

-- the versions of all keys, with one more
abbrev pub put_version : ℕ → ℕ → Change → (Key → ℕ → Option Version) → Key → ℕ → Option Version
put_version t c x f k q = cond (bytes_eq x.key k) (cond (c == q) (Some record {
  start = t;
  mutation = x.mutation;
}) (f k q)) (f k q)

-- with those of a write set
abbrev pub puts : ℕ → ℕ → List Change → (Key → ℕ → Option Version) → Key → ℕ → Option Version
puts t c [] f = f
puts t c (x ∷ xs) f = puts t c xs (put_version t c x f)
