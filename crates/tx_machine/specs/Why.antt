-- Why the machine does not make a step: for each step that it refuses, a fact of its table that
-- refuses it.
use Rattle.std.specs.Prelude.{◌≡◌, ◌≢◌, ◌⊎◌, ℕ, ◌+◌, ◌<◌, ◌≤◌, true, false, List, [], ◌∷◌, ◌++◌, length, Option, Some, None, IsTrue}
use Rattle.std.specs.declared.ops.Bound.{Bound}
use Rattle.std.specs.declared.ops.Bound.TheVariants.{Included, Excluded}
use Rattle.tx_types.specs.declared.key.Key.{Key}
use Rattle.tx_types.specs.declared.value.Value.{Value}
use Rattle.tx_types.specs.declared.mutation.Change.{Change}
use Rattle.tx_types.specs.declared.mutation.KeyValue.{KeyValue}
use Rattle.tx_types.specs.declared.mutation.Mutation.{Mutation}
use Rattle.tx_types.specs.declared.mutation.Mutation.TheVariants.{Insert}
use Rattle.tx_types.specs.declared.mutation.Fate.{Fate}
use Rattle.tx_types.specs.Keys.{IsVisible, put_by, value_in}
use Rattle.tx_machine.specs.declared.machine.Machine.{Machine}
use Rattle.tx_machine.specs.declared.machine.TxnStage.{TxnStage}
use Rattle.tx_machine.specs.declared.machine.TxnStage.TheVariants as stage
use Rattle.tx_machine.specs.declared.step.Step.{Step}
use Rattle.tx_machine.specs.declared.step.Step.TheVariants.{Draw, Begin, Declare, Commit, Abort, Read, Scan, Answer}
use Rattle.tx_machine.specs.declared.reason.SeenValue.{SeenValue}
use Rattle.tx_machine.specs.declared.reason.SeenValue.TheVariants.{Nothing, Deleted, Left}
use Rattle.tx_machine.specs.declared.reason.Standing.{Standing}
use Rattle.tx_machine.specs.declared.reason.Standing.TheVariants.{Undrawn, Drawn, Begun, Declared, Ended}
use Rattle.tx_machine.specs.declared.reason.Why.{Why}
use Rattle.tx_machine.specs.declared.reason.Why.TheVariants as why
use Rattle.tx_machine.specs.declared.versions.Writer.{Writer}
use Rattle.tx_machine.specs.Keys.{mutation_at, IsDistinct, covered}
use Rattle.tx_machine.specs.Machine.{Open, Done, Table, Commits, Overlap, IsRead, Admits}
use Rattle.tx_machine.specs.Representation.{Represents}
use Rattle.tx_machine.specs.Scans.{IsKeyWithin}

-- ---- what a read sees, and who left it

-- over whatever says which commits of a key there are, by start, commit and mutation
module _ (committed : ℕ → ℕ → Mutation → Type 0) where
  -- this commit is the newest at or below r that puts, inserts or deletes
  pub record LeftBy (r : ℕ) (by : Writer) (m : Mutation) : Type 0 where
    pub commits : committed by.start by.commit m
    pub visible : IsVisible m
    pub upto : by.commit ≤ r
    pub newest : (u c : ℕ) (n : Mutation) → committed u c n → IsVisible n → by.commit < c → c ≤ r → ⊥

  -- a read at r sees this, and this commit left it; nothing was left where there is none
  abbrev pub IsSeen : ℕ → SeenValue → Type 0
  IsSeen r Nothing = (u c : ℕ) (m : Mutation) → committed u c m → IsVisible m → c ≤ r → ⊥
  IsSeen r (Deleted by) = (m : Mutation) × LeftBy r by m × (put_by m ≡ None)
  IsSeen r (Left v by) = (m : Mutation) × LeftBy r by m × (put_by m ≡ Some v)

-- the value that is seen
abbrev pub value_of : SeenValue → Option Value
value_of Nothing = None
value_of (Deleted by) = None
value_of (Left v by) = Some v

-- ---- how far a transaction has come

abbrev pub Stands : Table → ℕ → Standing → Type 0
Stands table t Undrawn = table.drawn t ≡ false
Stands table t Drawn = (table.drawn t ≡ true) × (table.row t ≡ None)
Stands table t Begun = table.row t ≡ Some record { changes = None; state = Open }
Stands table t Declared = (set : List Change) × (table.row t ≡ Some record { changes = Some set; state = Open })
Stands table t (Ended fate) = (changes : Option (List Change))
    × (table.row t ≡ Some record { changes = changes; state = Done fate })

-- as the machine's maps say it
abbrev pub standing_of : Option TxnStage → Option Fate → Standing
standing_of None fate = Undrawn
standing_of (Some stage.Drawn) fate = Drawn
standing_of (Some stage.Begun) None = Begun
standing_of (Some (stage.Declared set)) None = Declared
standing_of (Some stage.Begun) (Some fate) = Ended fate
standing_of (Some (stage.Declared set)) (Some fate) = Ended fate

-- ---- write sets and rows

-- a key stands once more behind a beginning of a write set that has it
pub record StandsTwice (set : List Change) (k : Key) : Type 0 where
  pub before : List Change
  pub after : List Change
  pub mutation : Mutation
  pub split : set ≡ before ++ record { key = k; mutation = mutation } ∷ after
  pub has : mutation_at before k ≢ None

-- the transaction that started at t is open, and is to do m to k
pub record IsToDo (table : Table) (t : ℕ) (k : Key) (m : Mutation) : Type 0 where
  pub set : List Change
  pub opened : table.row t ≡ Some record { changes = Some set; state = Open }
  pub does : mutation_at set k ≡ Some m

-- each row's key lies above the one before it, the first within a bound, and all below a key
abbrev pub AreInPlace : Bound Key → Key → List KeyValue → Type 0
AreInPlace from to [] = Unit {0}
AreInPlace from to (row ∷ rows) = IsKeyWithin from to row.key × AreInPlace (Excluded row.key) to rows

-- k is the key of a row that does not
abbrev pub IsMisplaced : Bound Key → Key → List KeyValue → Key → Type 0
IsMisplaced from to [] k = ⊥
IsMisplaced from to (row ∷ rows) k = ((row.key ≡ k) × (IsKeyWithin from to k → ⊥))
    ⊎ IsMisplaced (Excluded row.key) to rows k

-- ---- the reasons

-- what a read at r sees of k is not what it claims
pub record SeesOther (table : Table) (k : Key) (r : ℕ) (claims : Option Value) (seen : SeenValue) : Type 0 where
  pub sees : IsSeen (Commits table.row k) r seen
  pub other : value_of seen ≢ claims

-- a transaction stands so, and not as the step asks
abbrev pub StandsOther : Table → ℕ → Standing → Standing → Type 0
StandsOther table t is wanted = Stands table t is × (is ≢ wanted)

-- What refuses a step. Each names what it speaks of as the step does; a reason of another step says
-- nothing.
abbrev pub Explains : Table → Step → Why → Type 0
Explains table (Draw n) (why.Last at last) = (at ≡ n) × (table.last ≡ last) × (n ≤ last)
Explains table (Begin t) (why.State start is) = (start ≡ t) × StandsOther table t is Drawn
Explains table (Declare t set) (why.State start is) = (start ≡ t) × StandsOther table t is Begun
Explains table (Declare t set) (why.Empty start) = (start ≡ t) × (set ≡ [])
Explains table (Declare t set) (why.Twice start key) = (start ≡ t) × StandsTwice set key
Explains table (Commit t c) (why.State start is) = (start ≡ t) × StandsOther table t is Declared
Explains table (Commit t c) (why.Early start commit) = (start ≡ t) × (commit ≡ c) × (c ≤ t)
Explains table (Commit t c) (why.Last at last) = (at ≡ c) × (table.last ≡ last) × (last + 1 < c)
Explains table (Commit t c) (why.Conflict key other start) = (start ≡ t)
    × ((m : Mutation) × (n : Mutation) × IsToDo table t key m × Commits table.row key other.start other.commit n
    × Overlap t c other.start other.commit)
Explains table (Commit t c) (why.Unread key at commit) = (commit ≡ c) × (c ≤ at)
    × ((m : Mutation) × IsToDo table t key m × IsVisible m × IsRead table.reads key at)
Explains table (Commit t c) (why.Exists key at seen) = (at ≡ t)
    × ((v : Value) × IsToDo table t key (Insert v) × SeesOther table key t None seen)
Explains table (Abort t) (why.State start is) = (start ≡ t) × Stands table t is × (is ≢ Begun) × (is ≢ Declared)
Explains table (Read k r found) (why.Read key at claims seen) = (key ≡ k) × (at ≡ r) × (claims ≡ found)
    × SeesOther table k r found seen
Explains table (Read k r found) (why.Last at last) = (at ≡ r) × (table.last ≡ last) × (last < r)
Explains table (Scan s) (why.Last at last) = (at ≡ s.at) × (table.last ≡ last) × (last < s.at)
Explains table (Scan s) (why.Order key) = IsMisplaced (Included s.from) s.to s.rows key
Explains table (Scan s) (why.Count rows limit) = (rows ≡ length s.rows) × (limit ≡ s.limit) × (limit < rows)
Explains table (Scan s) (why.Read key at claims seen) = (at ≡ s.at) × (claims ≡ value_in s.rows key)
    × IsTrue (covered s key)
    × SeesOther table key s.at claims seen
Explains table (Answer t fate) (why.State start is) = (start ≡ t) × StandsOther table t is (Ended fate)
Explains table step reason = ⊥

-- why a write set is not declared by the transaction that started at t, and nothing where its keys
-- are some and distinct
abbrev pub IsOfSet : ℕ → List Change → Option Why → Type 0
IsOfSet t set None = (set ≢ []) × IsDistinct set
IsOfSet t set (Some (why.Empty start)) = (start ≡ t) × (set ≡ [])
IsOfSet t set (Some (why.Twice start key)) = (start ≡ t) × StandsTwice set key
IsOfSet t set (Some reason) = ⊥

-- the machine does not make the step, for this reason
abbrev pub IsRefused : Table → Step → Why → Type 0
IsRefused table step reason = Explains table step reason × (Admits table step → ⊥)

-- why a machine does not make a step, and nothing where it makes it
abbrev pub IsWhy : Machine → Step → Option Why → Type 0
IsWhy machine step None = (table : Table) → Represents machine table → Admits table step
IsWhy machine step (Some reason) = (table : Table) → Represents machine table → IsRefused table step reason
