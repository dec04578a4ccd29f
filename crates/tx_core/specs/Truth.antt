-- What the answers of a history say of the one-step machine.
use Rattle.std.specs.Prelude.{◌≡◌, ◌≢◌, ℕ, ◌<◌, ◌≤◌, List, Option, Some, None, Contains}
use Rattle.tx_types.specs.declared.key.Key.{Key}
use Rattle.tx_types.specs.declared.value.Value.{Value}
use Rattle.tx_types.specs.declared.lock.LockInfo.{LockInfo}
use Rattle.tx_types.specs.declared.mutation.Change.{Change}
use Rattle.tx_types.specs.declared.mutation.Mutation.{Mutation}
use Rattle.tx_types.specs.declared.mutation.KeyValue.{KeyValue}
use Rattle.tx_types.specs.declared.mutation.Fate.{Fate}
use Rattle.tx_types.specs.declared.mutation.Fate.TheVariants as fate
use Rattle.tx_plan.specs.declared.body.Scan.{Scan}
use Rattle.tx_plan.specs.declared.body.Body.{Body}
use Rattle.tx_plan.specs.declared.body.Body.TheVariants as body
use Rattle.tx_plan.specs.declared.answer.Answer.{Answer}
use Rattle.tx_plan.specs.declared.answer.Answer.TheVariants.{Found, Nothing, Rows, Resolved, WriteConflict, CommitTsExpired, TxnNotFound, AlreadyExists}
use Rattle.tx_plan.specs.Answers.{start_in}
use Rattle.tx_machine.specs.Keys.{mutation_at}
use Rattle.tx_machine.specs.declared.step.ScanRead.{ScanRead}
use Rattle.tx_machine.specs.Machine.{State, Open, Done, Table, Commits, Sees, SeesRows}
use Rattle.tx_core.specs.declared.event.Outcome.{Outcome}
use Rattle.tx_core.specs.declared.event.Outcome.TheVariants as outcome
use Rattle.tx_core.specs.declared.event.Event.{Event}
use Rattle.tx_core.specs.declared.event.Event.TheVariants.{Answered, Took}
use Rattle.tx_core.specs.Decisions.{fate_in, infos_in}

-- a scan and its rows, as the machine reads them
abbrev pub scan_read : Scan → List KeyValue → ScanRead
scan_read b rows = record { from = b.from; to = b.to; at = b.at; limit = b.limit; rows = rows }

-- the transaction that started at t has ended so in the machine
abbrev pub HasEnded : Table → ℕ → Fate → Type 0
HasEnded table t end = (changes : Option (List Change))
    × (table.row t ≡ Some record { changes = changes; state = Done end })

-- the transaction that a request names has ended as was told, if a fate was told
abbrev pub EndsBy : Table → Option ℕ → Option Fate → Type 0
EndsBy table t None = Unit {0}
EndsBy table None (Some end) = ⊥
EndsBy table (Some t) (Some end) = HasEnded table t end

-- it has neither committed nor aborted yet
abbrev pub IsOpen : Table → ℕ → Type 0
IsOpen table t = (changes : Option (List Change)) × (table.row t ≡ Some record { changes = changes; state = Open })

-- another transaction than t, which started at s, committed k at c, above the start of t
pub record IsOvertaken (table : Table) (k : Key) (t s c : ℕ) : Type 0 where
  pub does : Mutation
  pub commits : Commits table.row k s c does
  pub other : s ≢ t
  pub above : t < c

-- A region's answer, case by case.
abbrev pub IsTrueAnswer : Table → Body → Answer → Type 0
-- A value, none and rows are what the machine sees at that timestamp.
IsTrueAnswer table (body.Get b) (Found v) = Sees table.row b.key b.at (Some v)
IsTrueAnswer table (body.Get b) Nothing = Sees table.row b.key b.at None
IsTrueAnswer table (body.Scan b) (Rows rows) = SeesRows table.row (scan_read b rows)
-- E17: the machine sees a value at the start of an insert that is refused.
IsTrueAnswer table (body.Prewrite b) AlreadyExists = (v : Value) × Sees table.row b.key b.start (Some v)
-- E2: a prewrite meets another's commit, which it names. A commit or a resolution never does.
IsTrueAnswer table (body.Prewrite b) (WriteConflict s c) = IsOvertaken table b.key b.start s c
IsTrueAnswer table (body.Commit b) (WriteConflict s c) = ⊥
IsTrueAnswer table (body.ResolveLock b) (WriteConflict s c) = ⊥
-- E5: a commit is refused for its timestamp while its transaction is open. A resolution never is.
IsTrueAnswer table (body.Commit b) (CommitTsExpired min) = IsOpen table b.start
IsTrueAnswer table (body.ResolveLock b) (CommitTsExpired min) = ⊥
-- E10: a transaction that is not found is not committed.
IsTrueAnswer table (body.CheckTxnStatus b) TxnNotFound = (c : ℕ) → HasEnded table b.start (fate.Committed c) → ⊥
-- A lock is resolved as its transaction has ended.
IsTrueAnswer table (body.ResolveLock b) Resolved = HasEnded table b.start b.fate
-- Each other answer that tells a fate (E3 and E4 among them) says how the transaction has ended.
-- What is left tells nothing of the machine. A lock that is put tells of no end: those of all keys
-- together do (`decided_async`). That no lock and no record stands on a key (E6) is so before an
-- end and after it. A time to live, a safe point that is raised or met (E7) and a collection are
-- not of the machine, and a number above the last one that a seat had loaded (E8) may be drawn by
-- now. What is told of locks is `IsToldLock`.
IsTrueAnswer table b a = EndsBy table (start_in b) (fate_in a)

-- A lock that an answer shows (E1, E9 and those that are told where they stand) is of a transaction
-- that declared its key, and that is committed, if it is, at or above the lock's minimum.
pub record IsToldLock (table : Table) (info : LockInfo) : Type 0 where
  pub set : List Change
  pub state : State
  pub row_is : table.row info.start ≡ Some record { changes = Some set; state = state }
  pub within : mutation_at set info.key ≢ None
  pub above : (c : ℕ) → state ≡ Done (fate.Committed c) → info.min ≤ c

-- a session's outcome: committed and aborted mean that the machine's transaction has ended so, and
-- read-only that it has declared nothing; unknown says nothing of it
abbrev pub IsTrueOutcome : Table → ℕ → Outcome → Type 0
IsTrueOutcome table t (outcome.Committed c) = HasEnded table t (fate.Committed c)
IsTrueOutcome table t outcome.Aborted = HasEnded table t fate.Aborted
IsTrueOutcome table t outcome.ReadOnly = table.row t ≡ Some record { changes = None; state = Open }
IsTrueOutcome table t (outcome.Unknown cause) = Unit {0}

-- an event's answer is true of a table, and so is each lock that it shows
abbrev pub IsTrue : Table → Event → Type 0
IsTrue table (Took x) = IsTrueAnswer table x.body x.answer
    × ((info : LockInfo) → Contains (infos_in x.answer) info → IsToldLock table info)
IsTrue table (Answered t o) = IsTrueOutcome table t o
IsTrue table _ = Unit {0}
