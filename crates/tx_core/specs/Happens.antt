-- What happens in some world run: of the events before, and the request that a region takes next.
use Rattle.std.specs.Prelude.{◌≡◌, ◌≢◌, ℕ, ◌<◌, true, List, ◌∷◌, Some, None}
use Rattle.tx_types.specs.declared.key.Key.{Key}
use Rattle.tx_types.specs.declared.value.Value.{Value}
use Rattle.tx_types.specs.declared.mutation.Mutation.TheVariants.{Insert, Delete}
use Rattle.tx_types.specs.declared.mutation.Mode.TheVariants.{TwoPhase, Async}
use Rattle.tx_types.specs.declared.mutation.Fate.TheVariants.{Committed, Aborted}
use Rattle.tx_types.specs.declared.lock.LockInfo.{LockInfo}
use Rattle.tx_plan.specs.declared.body.Get.{Get}
use Rattle.tx_plan.specs.declared.body.Scan.{Scan}
use Rattle.tx_plan.specs.declared.body.Prewrite.{Prewrite}
use Rattle.tx_plan.specs.declared.body.Commit.{Commit}
use Rattle.tx_plan.specs.declared.body.CheckTxnStatus.{CheckTxnStatus}
use Rattle.tx_plan.specs.declared.body.CheckSecondaryLocks.{CheckSecondaryLocks}
use Rattle.tx_plan.specs.declared.body.Collect.{Collect}
use Rattle.tx_plan.specs.declared.body.Body.TheVariants as body
use Rattle.tx_plan.specs.declared.answer.Answer.TheVariants as reply
use Rattle.tx_plan.specs.Cells.{Lock, CommitRecord, CommitOf}
use Rattle.tx_machine.specs.Machine.{Done, Commits, table_of}
use Rattle.tx_core.specs.declared.event.Declaration.{Declaration}
use Rattle.tx_core.specs.declared.event.Taken.{Taken}
use Rattle.tx_core.specs.declared.event.Event.TheVariants.{Took}
use Rattle.tx_core.specs.Histories.{History, declared, is_first, left, Among}
use Rattle.tx_core.specs.Decisions.{Acceptance, accepted, HasTwoPhaseLock, decided}
use Rattle.tx_core.specs.Shadow.{shadow}
use Rattle.tx_core.specs.EventSteps.{Decides}
use Rattle.tx_core.specs.Worlds.{IsWorldRun}

-- there is a world run in which P holds of a request and the events before it
abbrev pub Happens : (History → Taken → Type 0) → Type 0
Happens P = (bounds : List Key) × (h : History) × (x : Taken) × IsWorldRun bounds (Took x ∷ h) × P h x

-- ---- commits

-- the commit of its primary decides a transaction that was declared two-phase
pub record CommitsInTwoPhases (h : History) (x : Taken) : Type 0 where
  pub of : Declaration
  pub stands : declared h of.start ≡ Some of
  pub two_phase : of.mode ≡ TwoPhase
  pub asked : (b : Commit) × (x.body ≡ body.Commit b)
  pub decides : (c : ℕ) × Decides h (Took x) of.start (Committed c)

-- a late prewrite decides an async transaction, above the minimum that its primary has
pub record CommitsByLatePrewrite (h : History) (x : Taken) : Type 0 where
  pub of : Declaration
  pub stands : declared h of.start ≡ Some of
  pub async : of.mode ≡ Async
  pub asked : (b : Prewrite) × (x.body ≡ body.Prewrite b)
  pub commit : ℕ
  pub decides : Decides h (Took x) of.start (Committed commit)
  pub primary : Key
  pub first : is_first of.changes primary ≡ true
  pub by : Acceptance
  pub accepted : accepted h of.start primary ≡ Some by
  pub above : by.lock.min < commit

-- an async transaction has fallen back, and the commit of its primary decides it
pub record CommitsAfterFallBack (h : History) (x : Taken) : Type 0 where
  pub of : Declaration
  pub stands : declared h of.start ≡ Some of
  pub async : of.mode ≡ Async
  pub fell_back : HasTwoPhaseLock h of.start
  pub asked : (b : Commit) × (x.body ≡ body.Commit b)
  pub decides : (c : ℕ) × Decides h (Took x) of.start (Committed c)

-- a reader's status check pushes the minimum of the lock that is on its key
pub record PushesMinimum (h : History) (x : Taken) : Type 0 where
  pub b : CheckTxnStatus
  pub asked : x.body ≡ body.CheckTxnStatus b
  pub before : Lock
  pub was : ((left h x.region).cells b.key).lock ≡ Some before
  pub after : Lock
  pub is : ((left (Took x ∷ h) x.region).cells b.key).lock ≡ Some after
  pub raised : before.min < after.min

-- ---- rollbacks

-- a resolver's status check aborts a transaction
pub record AbortsByStatus (h : History) (x : Taken) : Type 0 where
  pub b : CheckTxnStatus
  pub asked : x.body ≡ body.CheckTxnStatus b
  pub decides : Decides h (Took x) b.start Aborted

-- a resolver's check of a secondary lock aborts a transaction
pub record AbortsBySecondary (h : History) (x : Taken) : Type 0 where
  pub b : CheckSecondaryLocks
  pub asked : x.body ≡ body.CheckSecondaryLocks b
  pub decides : Decides h (Took x) b.start Aborted

-- a commit goes where the rollback of another transaction is, and its record keeps that as the mark
pub record OverlapsRollback (h : History) (x : Taken) : Type 0 where
  pub b : Commit
  pub asked : x.body ≡ body.Commit b
  pub committed : decided h b.start ≡ Done (Committed b.commit)
  pub aborted : decided h b.commit ≡ Done Aborted
  pub rec : CommitRecord
  pub is : ((left (Took x ∷ h) x.region).cells b.key).write b.commit ≡ Some (CommitOf rec)
  pub marked : rec.overlapped_rollback ≡ true

-- ---- decisions that are found again

-- the same commit was answered so before
pub record FindsCommit (h : History) (x : Taken) : Type 0 where
  pub b : Commit
  pub asked : x.body ≡ body.Commit b
  pub answer : x.answer ≡ reply.Committed b.commit
  pub before : Among h (Took x)

-- a status check is answered with the commit that was decided before
pub record FindsByStatus (h : History) (x : Taken) : Type 0 where
  pub b : CheckTxnStatus
  pub asked : x.body ≡ body.CheckTxnStatus b
  pub commit : ℕ
  pub answer : x.answer ≡ reply.Committed commit
  pub before : decided h b.start ≡ Done (Committed commit)

-- ---- collection

-- a collection drops a record
pub record DropsRecord (h : History) (x : Taken) : Type 0 where
  pub b : Collect
  pub asked : x.body ≡ body.Collect b
  pub key : Key
  pub at : ℕ
  pub there : ((left h x.region).cells key).write at ≢ None
  pub gone : ((left (Took x ∷ h) x.region).cells key).write at ≡ None

-- beside a collection one read is refused, and one at the safe point finds its value
pub record ReadsBesideCollection (h : History) (x : Taken) : Type 0 where
  pub b : Get
  pub asked : x.body ≡ body.Get b
  pub found : Value
  pub answer : x.answer ≡ reply.Found found
  pub collected : (left h x.region).collected ≡ b.at
  pub low : Taken
  pub before : Among h (Took low)
  pub refused : (low.region ≡ x.region) × (low.answer ≡ reply.BelowSafePoint b.at)

-- ---- inserts

-- an insert is committed
pub record CommitsInsert (h : History) (x : Taken) : Type 0 where
  pub key : Key
  pub start : ℕ
  pub commit : ℕ
  pub value : Value
  pub decides : Decides h (Took x) start (Committed commit)
  pub commits : Commits (table_of (shadow (Took x ∷ h))).row key start commit (Insert value)

-- an insert is refused since its key has a value
pub record RefusesInsert (h : History) (x : Taken) : Type 0 where
  pub b : Prewrite
  pub asked : x.body ≡ body.Prewrite b
  pub answer : x.answer ≡ reply.AlreadyExists

-- a key is inserted, deleted and inserted again
pub record InsertsOverDelete (h : History) (x : Taken) : Type 0 where
  pub key : Key
  pub starts : ℕ × ℕ × ℕ
  pub commits : ℕ × ℕ × ℕ
  pub value : Value
  pub first : Commits (table_of (shadow (Took x ∷ h))).row key starts.0 commits.0 (Insert value)
  pub deleted : Commits (table_of (shadow (Took x ∷ h))).row key starts.1 commits.1 Delete
  pub again : Commits (table_of (shadow (Took x ∷ h))).row key starts.2 commits.2 (Insert value)
  pub order : (commits.0 < commits.1) × (commits.1 < commits.2)

-- ---- scans

-- a scan meets a lock
pub record ScanMeetsLock (h : History) (x : Taken) : Type 0 where
  pub b : Scan
  pub asked : x.body ≡ body.Scan b
  pub info : LockInfo
  pub answer : x.answer ≡ reply.KeyIsLocked info
