-- What a region may answer to a request, and what each answer leaves of it: the case tables
-- of all commands.
use Rattle.std.specs.Prelude.{◌≡◌, ℕ, Option, Some, None}
use Rattle.tx_plan.specs.declared.body.Body.{Body}
use Rattle.tx_plan.specs.declared.body.Body.TheVariants.{Get, Scan, Prewrite, Commit, BatchRollback, TxnHeartBeat, CheckTxnStatus, CheckSecondaryLocks, ResolveLock, RaiseSafe, LocksBelow, Collect}
use Rattle.tx_plan.specs.declared.body.Prewrite.{Prewrite as PrewriteBody}
use Rattle.tx_plan.specs.declared.answer.Answer.{Answer}
use Rattle.tx_types.specs.declared.key.Key.{Key}
use Rattle.tx_plan.specs.declared.answer.Answer.TheVariants.{Prewritten, Committed, RolledBack, Ttl, Missing, Locked, Resolved, Raised, Collected}
use Rattle.tx_plan.specs.Cells.{Cells, Region, with_lock, with_cells, with_max_read}
use Rattle.tx_plan.specs.Own.{on_own_lock, leave_rollback, roll_back, commit_lock}
use Rattle.tx_plan.specs.Reads.{raised}
use Rattle.tx_plan.specs.Plans.{with_read}
use Rattle.tx_plan.specs.cases.Get.{AnswersGet}
use Rattle.tx_plan.specs.cases.Scan.{AnswersScan}
use Rattle.tx_plan.specs.cases.Prewrite.{AnswersPrewrite, locked, read_by_prewrite, MayPromise, least_minimum}
use Rattle.tx_plan.specs.cases.Commit.{AnswersCommit}
use Rattle.tx_plan.specs.cases.BatchRollback.{AnswersBatchRollback}
use Rattle.tx_plan.specs.cases.TxnHeartBeat.{AnswersTxnHeartBeat}
use Rattle.tx_plan.specs.cases.CheckTxnStatus.{AnswersCheckTxnStatus}
use Rattle.tx_plan.specs.cases.CheckSecondaryLocks.{AnswersCheckSecondaryLocks}
use Rattle.tx_plan.specs.cases.ResolveLock.{AnswersResolveLock, resolve}
use Rattle.tx_plan.specs.cases.RaiseSafe.{AnswersRaiseSafe}
use Rattle.tx_plan.specs.cases.LocksBelow.{AnswersLocksBelow}
use Rattle.tx_plan.specs.cases.Collect.{AnswersCollectBy, HasCollected, CountsDropped, kept}

-- the transaction that a request names
abbrev pub start_in : Body → Option ℕ
start_in (Prewrite b) = Some b.start
start_in (Commit b) = Some b.start
start_in (BatchRollback b) = Some b.start
start_in (TxnHeartBeat b) = Some b.start
start_in (CheckTxnStatus b) = Some b.start
start_in (CheckSecondaryLocks b) = Some b.start
start_in (ResolveLock b) = Some b.start
start_in _ = None

-- the least minimum that a request itself asks for: the floor of a prewrite
abbrev pub floor_in : Body → ℕ
floor_in (Prewrite b) = b.floor
floor_in _ = 0

-- The tables of a region whose seat loaded `loaded`, where `Promise b` says which minimums an async
-- lock may have that the prewrite b puts, and `Counts` what a collection tells that it counted.
abbrev pub AnswersBy : (PrewriteBody → ℕ → Type 0) → ((Key → Cells) → ℕ → Answer → Type 0) → Region → ℕ → Body → Answer
    → Type 0
AnswersBy Promise Counts r loaded (Get b) a = AnswersGet (r.cells b.key) r.safe loaded b a
AnswersBy Promise Counts r loaded (Scan b) a = AnswersScan r.cells r.safe loaded b a
AnswersBy Promise Counts r loaded (Prewrite b) a = AnswersPrewrite (r.cells b.key) r.safe loaded (Promise b) b a
AnswersBy Promise Counts r loaded (Commit b) a = AnswersCommit (r.cells b.key) r.collected b a
AnswersBy Promise Counts r loaded (BatchRollback b) a = AnswersBatchRollback (r.cells b.key) r.collected b a
AnswersBy Promise Counts r loaded (TxnHeartBeat b) a = AnswersTxnHeartBeat (r.cells b.key) r.collected b a
AnswersBy Promise Counts r loaded (CheckTxnStatus b) a = AnswersCheckTxnStatus (r.cells b.key) r.collected loaded b a
AnswersBy Promise Counts r loaded (CheckSecondaryLocks b) a = AnswersCheckSecondaryLocks (r.cells b.key) r.collected b a
AnswersBy Promise Counts r loaded (ResolveLock b) a = AnswersResolveLock (r.cells b.key) r.collected b a
AnswersBy Promise Counts r loaded (RaiseSafe b) a = AnswersRaiseSafe r.safe loaded b a
AnswersBy Promise Counts r loaded (LocksBelow b) a = AnswersLocksBelow r.cells b a
AnswersBy Promise Counts r loaded (Collect b) a = AnswersCollectBy Counts r.cells r.safe b a

-- What a region may answer, where `top` is the last number drawn when it does. Two things are free:
-- the minimum of an async lock, and what a collection counted.
abbrev pub Answers : Region → ℕ → ℕ → Body → Answer → Type 0
Answers region loaded top = AnswersBy (MayPromise region.max_read top) HasCollected region loaded

-- What a region of this store answers: the same, with the least minimum above a mark, which is the
-- greatest timestamp that was read in any region, and with the counts of what is dropped.
abbrev pub AnswersFrom : ℕ → Region → ℕ → Body → Answer → Type 0
AnswersFrom mark region loaded = AnswersBy (λ b m. m ≡ least_minimum mark b) CountsDropped region loaded

-- ---- what an answer leaves

-- What an answer leaves on the key of its request: the answer tells the change. An accepted
-- prewrite leaves its lock, where none stands yet. Where a transaction is committed, its lock, if
-- it stands, becomes its commit record; where it is rolled back, its lock is gone and its rollback
-- stands; where it is missing, its rollback stands. A lock that is told of has the time to live, or
-- the minimum, of the answer. One that is resolved is committed or rolled back. All else stays.
abbrev pub leaves_on : Cells → Body → Answer → Cells
leaves_on cells (Prewrite b) (Prewritten m) = with_lock cells (Some (locked cells.lock b m))
leaves_on cells (Commit b) (Committed c) = commit_lock cells b.start b.commit
leaves_on cells (BatchRollback b) RolledBack = roll_back cells b.start
leaves_on cells (TxnHeartBeat b) (Ttl ttl) = on_own_lock cells b.start
    (λ lock. with_lock cells (Some record lock { ttl = ttl }))
leaves_on cells (CheckTxnStatus b) RolledBack = roll_back cells b.start
leaves_on cells (CheckTxnStatus b) (Locked info) = on_own_lock cells b.start
    (λ lock. with_lock cells (Some record lock { min = info.min }))
leaves_on cells (CheckSecondaryLocks b) Missing = leave_rollback cells b.start
leaves_on cells (ResolveLock b) Resolved = resolve cells b.start b.fate
leaves_on cells _ _ = cells

-- What it leaves of the region. A read raises the greatest timestamp read, also where a lock
-- stopped it, and so does the check of an insert. A safe point that is raised is the one that was
-- asked for. Where a region has collected, the records that are not kept are gone, on every key,
-- and it has collected up to there.
abbrev pub leaves : Region → Body → Answer → Region
leaves r (Get b) a = with_max_read r (raised a b.at r.max_read)
leaves r (Scan b) a = with_max_read r (raised a b.at r.max_read)
leaves r (Prewrite b) a = with_read (with_cells r b.key (leaves_on (r.cells b.key) (Prewrite b) a))
    (read_by_prewrite a (r.cells b.key).lock b)
leaves r (Commit b) a = with_cells r b.key (leaves_on (r.cells b.key) (Commit b) a)
leaves r (BatchRollback b) a = with_cells r b.key (leaves_on (r.cells b.key) (BatchRollback b) a)
leaves r (TxnHeartBeat b) a = with_cells r b.key (leaves_on (r.cells b.key) (TxnHeartBeat b) a)
leaves r (CheckTxnStatus b) a = with_cells r b.key (leaves_on (r.cells b.key) (CheckTxnStatus b) a)
leaves r (CheckSecondaryLocks b) a = with_cells r b.key (leaves_on (r.cells b.key) (CheckSecondaryLocks b) a)
leaves r (ResolveLock b) a = with_cells r b.key (leaves_on (r.cells b.key) (ResolveLock b) a)
leaves r (RaiseSafe b) Raised = record r { safe = b.safe }
leaves r (Collect b) (Collected records values) = record r {
  cells = λ k. kept (r.cells k) b.safe;
  collected = b.safe;
}
leaves r _ _ = r
