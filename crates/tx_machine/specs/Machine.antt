-- Snapshot isolation, with timestamps in the open. A transaction is named by the number at which it
-- starts, and commits at one number in one step. Whoever reads at r sees what is committed at or
-- below r; to keep that so for ever, no later commit may come at or below r on a key that was read
-- there (`unread`). An insert commits only where its transaction, reading at its start, sees no
-- value there (`fresh`), and its commit leaves that read. Two transactions overlap where each
-- starts below the other's commit; of two that share a key only one commits (`apart`). An async
-- commit takes a number that nobody need have drawn, at most one above the last: a transaction that
-- starts at that number sees it. Lists of steps are newest first.
use Rattle.std.specs.Prelude.{◌≡◌, ◌≢◌, ℕ, ◌+◌, ◌<◌, ◌≤◌, ◌==◌, ◌⊎◌, Bool, true, false, cond, List, [], ◌∷◌, length, Option, Some, None, bytes_eq, IsTrue}
use Rattle.tx_types.specs.declared.key.Key.{Key}
use Rattle.tx_types.specs.declared.value.Value.{Value}
use Rattle.tx_types.specs.declared.mutation.Change.{Change}
use Rattle.tx_types.specs.declared.mutation.Mutation.{Mutation}
use Rattle.tx_types.specs.declared.mutation.Mutation.TheVariants.{Insert}
use Rattle.tx_types.specs.declared.mutation.Fate.{Fate}
use Rattle.tx_types.specs.declared.mutation.Fate.TheVariants.{Committed, Aborted}
use Rattle.tx_machine.specs.declared.step.ScanRead.{ScanRead}
use Rattle.tx_machine.specs.declared.step.Step.{Step}
use Rattle.tx_machine.specs.declared.step.Step.TheVariants.{Draw, Begin, Declare, Commit, Abort, Read, Scan, Answer}
use Rattle.tx_types.specs.Keys.{IsRising, value_in, IsVisible, put_by}
use Rattle.tx_machine.specs.Keys.{mutation_at, inserted, IsDistinct, covered}

-- what has become of a transaction
pub data State : Type 0 where
  Open : State
  Done : (fate : Fate) → State

-- a transaction's write set, undeclared at first, and its state
pub record Row : Type 0 where
  pub changes : Option (List Change)
  pub state : State

-- a read at a timestamp, and the keys that it covered, as a test
pub record Reading : Type 0 where
  pub covers : Key → Bool
  pub at : ℕ

-- the table: the rows by start timestamp, the last number, the numbers drawn, the reads
pub record Table : Type 0 where
  pub row : ℕ → Option Row
  pub last : ℕ
  pub drawn : ℕ → Bool
  pub reads : List Reading

-- the table before the first step
abbrev pub empty : Table
empty = record { row = λ t. None; last = 0; drawn = λ t. false; reads = [] }

-- the rows of a table, by start timestamp
abbrev pub Rows : Type 0
Rows = ℕ → Option Row

-- the transaction that started at u is committed at c, and does m to k
pub record Commits (rows : Rows) (k : Key) (u c : ℕ) (m : Mutation) : Type 0 where
  pub set : List Change
  pub row_is : rows u ≡ Some record { changes = Some set; state = Done (Committed c) }
  pub does : mutation_at set k ≡ Some m

-- nothing that puts or deletes k is committed above low and at most at r
abbrev pub NoneBetween : Rows → Key → ℕ → ℕ → Type 0
NoneBetween rows k low r = (u c : ℕ) (m : Mutation) → Commits rows k u c m → IsVisible m → low < c → c ≤ r → ⊥

-- the newest commit at most at r that puts or deletes k does m
pub record Newest (rows : Rows) (k : Key) (r : ℕ) (m : Mutation) : Type 0 where
  pub start : ℕ
  pub at : ℕ
  pub commits : Commits rows k start at m
  pub upto : at ≤ r
  pub newest : NoneBetween rows k at r

-- what a read of k at r sees: the value that the newest commit leaves, or none where it leaves none
-- or there is none
abbrev pub Sees : Rows → Key → ℕ → Option Value → Type 0
Sees rows k r (Some v) = (m : Mutation) × Newest rows k r m × (put_by m ≡ Some v)
Sees rows k r None = (m : Mutation) (v : Value) → Newest rows k r m → put_by m ≡ Some v → ⊥

-- what a scan sees: the first visible keys of its range in order, at most as many as its limit
pub record SeesRows (rows : Rows) (s : ScanRead) : Type 0 where
  pub rising : IsRising s.rows
  pub within : (k : Key) (v : Value) → value_in s.rows k ≡ Some v → IsTrue (covered s k)
  pub upto : length s.rows ≤ s.limit
  pub each : (k : Key) → IsTrue (covered s k) → Sees rows k s.at (value_in s.rows k)

-- a read at r covered k
abbrev pub IsRead : List Reading → Key → ℕ → Type 0
IsRead [] k r = ⊥
IsRead (x ∷ xs) k r = (IsTrue (x.covers k) × (x.at ≡ r)) ⊎ IsRead xs k r

-- two transactions overlap where each started below the other's commit
abbrev pub Overlap : ℕ → ℕ → ℕ → ℕ → Type 0
Overlap t c u d = (t < d) × (u < c)

-- when the transaction that started at t may be committed at c: it is open and declared, c lies
-- above its start and at most one above the last number, no read at or above c covers a key that it
-- puts or deletes, a read at its start sees no value of what it inserts, and no committed
-- transaction that shares a key with it would overlap it
pub record MayCommit (table : Table) (t c : ℕ) : Type 0 where
  pub set : List Change
  pub opened : table.row t ≡ Some record { changes = Some set; state = Open }
  pub above : t < c
  pub upto : c ≤ table.last + 1
  pub unread : (k : Key) (m : Mutation) (r : ℕ) → mutation_at set k ≡ Some m → IsVisible m → IsRead table.reads k r
      → r < c
  pub fresh : (k : Key) (v : Value) → mutation_at set k ≡ Some (Insert v) → Sees table.row k t None
  pub apart : (k : Key) (m n : Mutation) (u d : ℕ) → mutation_at set k ≡ Some m → Commits table.row k u d n
      → Overlap t c u d → ⊥

-- which steps the machine makes
abbrev pub Admits : Table → Step → Type 0
Admits table (Draw n) = table.last < n
Admits table (Begin t) = (table.drawn t ≡ true) × (table.row t ≡ None)
Admits table (Declare t set) = (table.row t ≡ Some record { changes = None; state = Open }) × (set ≢ [])
    × IsDistinct set
Admits table (Commit t c) = MayCommit table t c
Admits table (Abort t) = (changes : Option (List Change))
    × (table.row t ≡ Some record { changes = changes; state = Open })
Admits table (Read k r found) = (r ≤ table.last) × Sees table.row k r found
Admits table (Scan s) = (s.at ≤ table.last) × SeesRows table.row s
Admits table (Answer t fate) = (changes : Option (List Change))
    × (table.row t ≡ Some record { changes = changes; state = Done fate })

-- a table with one row changed
abbrev pub with_row : Table → ℕ → Option (List Change) → State → Table
with_row table t changes state = record table {
  row = λ q. cond (t == q) (Some record {
    changes = changes;
    state = state;
  }) (table.row q);
}

-- a table with one read more
abbrev pub with_read : Table → (Key → Bool) → ℕ → Table
with_read table covers r = record table { reads = record { covers = covers; at = r } ∷ table.reads }

-- the declared write set of a row
abbrev pub changes_in : Option Row → Option (List Change)
changes_in None = None
changes_in (Some row) = row.changes

-- the table that a step leaves: the commit of an insert leaves a read of its key at the start
abbrev pub after : Table → Step → Table
after table (Draw n) = record table { last = n; drawn = λ q. cond (n == q) true (table.drawn q) }
after table (Begin t) = with_row table t None Open
after table (Declare t set) = with_row table t (Some set) Open
after table (Commit t c) = with_read (with_row table t (changes_in (table.row t)) (Done (Committed c)))
    (inserted (changes_in (table.row t))) t
after table (Abort t) = with_row table t (changes_in (table.row t)) (Done Aborted)
after table (Read k r found) = with_read table (bytes_eq k) r
after table (Scan s) = with_read table (covered s) s.at
after table (Answer t fate) = table

-- the table that a list of steps leaves
abbrev pub table_of : List Step → Table
table_of [] = empty
table_of (step ∷ steps) = after (table_of steps) step

-- a run: each step is one that the machine makes after those before it
abbrev pub IsRun : List Step → Type 0
IsRun [] = Unit {0}
IsRun (step ∷ steps) = IsRun steps × Admits (table_of steps) step
