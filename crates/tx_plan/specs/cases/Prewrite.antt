-- Prewrite: a lock on a key, the first phase of a commit.
use Rattle.std.specs.Prelude.{◌≡◌, ℕ, ◌+◌, ◌<◌, ◌≤◌, ◌==◌, max, cond, [], Option, Some, None}
use Rattle.tx_types.specs.declared.value.Value.{Value}
use Rattle.tx_types.specs.declared.mutation.Mutation.{Mutation}
use Rattle.tx_types.specs.declared.mutation.Mutation.TheVariants as mutation
use Rattle.tx_types.specs.declared.mutation.Mode.TheVariants.{TwoPhase, Async}
use Rattle.tx_types.specs.Keys.{IsInsert}
use Rattle.tx_types.specs.Kinds.{as_locked}
use Rattle.tx_types.specs.Locks.{async_min}
use Rattle.tx_plan.specs.declared.body.Prewrite.{Prewrite}
use Rattle.tx_plan.specs.declared.answer.Answer.{Answer}
use Rattle.tx_plan.specs.declared.answer.Answer.TheVariants.{Prewritten, KeyIsLocked, WriteConflict, AlreadyRolledBack, AlreadyCommitted, BelowSafePoint, FutureTimestamp, AlreadyExists}
use Rattle.tx_plan.specs.Tables.{Case, CaseOf}
use Rattle.tx_plan.specs.Cells.{Lock, CommitRecord, CommitOf, Writes, Cells, info_of}
use Rattle.tx_plan.specs.Own.{OwnLock, OwnCommit, OwnRollback}
use Rattle.tx_plan.specs.Reads.{Finds}

-- the least minimum of an async lock: above the mark, which is the greatest timestamp read, above
-- the start, and not below the floor that the prewrite carries
abbrev pub least_minimum : ℕ → Prewrite → ℕ
least_minimum mark b = max (max mark b.start + 1) b.floor

-- the minimums that an async lock may have: from the least above the region's reads up to one above
-- the last number drawn
abbrev pub MayPromise : ℕ → ℕ → Prewrite → ℕ → Type 0
MayPromise max_read top b m = (least_minimum max_read b ≤ m) × (m ≤ top + 1)

-- a greatest commit timestamp that allows m; none is no bound
abbrev pub IsWithin : Option ℕ → ℕ → Type 0
IsWithin None m = Unit {0}
IsWithin (Some max_commit) m = m ≤ max_commit

-- the minimum that an answer names: 0 of a two-phase lock
abbrev pub named_minimum : Lock → ℕ
named_minimum lock = async_min lock.mode lock.min

-- a commit record stands above t
pub record SomeAbove (write : Writes) (t : ℕ) : Type 0 where
  pub at : ℕ
  pub rec : CommitRecord
  pub stands : write at ≡ Some (CommitOf rec)
  pub above : t < at

-- the newest commit record stands at c, above t, and is of the transaction that started at start
pub record NewestAbove (write : Writes) (t start c : ℕ) : Type 0 where
  pub rec : CommitRecord
  pub stands : write c ≡ Some (CommitOf rec)
  pub of : rec.start ≡ start
  pub above : t < c
  pub newest : (d : ℕ) (other : CommitRecord) → write d ≡ Some (CommitOf other) → d ≤ c

-- a read at t finds a value: the newest put or delete at most at t is a put
abbrev pub HasValue : Writes → ℕ → Type 0
HasValue write t = (v : Value) × Finds write t v

-- A start below the safe point or above the last number loaded is refused. What stands of the
-- transaction itself is told. Another's lock, or a commit record above the start, is in the way. An
-- insert is refused where there is a value: no commit record stands above the start then, so it is
-- the key's newest. Else the key is locked: an async lock promises a minimum, and where the
-- transaction's greatest commit timestamp does not allow it, the lock is a two-phase one, as it is
-- where two-phase was asked for. `Promise` says which minimums may be given.
abbrev pub AnswersPrewrite : Cells → ℕ → ℕ → (ℕ → Type 0) → Prewrite → Answer → Type 0
AnswersPrewrite cells safe loaded Promise b a =
    Case (b.start < safe) (a ≡ BelowSafePoint safe)
    (Case (loaded < b.start) (a ≡ FutureTimestamp loaded)
    (CaseOf (λ lock. OwnLock cells.lock b.start lock) (λ lock. a ≡ Prewritten (async_min lock.mode lock.min))
    (Case (OwnRollback cells.write b.start) (a ≡ AlreadyRolledBack)
    (CaseOf (λ c. OwnCommit cells.write b.start c) (λ c. a ≡ AlreadyCommitted c)
    (CaseOf (λ lock. cells.lock ≡ Some lock) (λ lock. a ≡ KeyIsLocked (info_of b.key lock))
    (Case (SomeAbove cells.write b.start) ((start c : ℕ) × NewestAbove cells.write b.start start c
    × (a ≡ WriteConflict start c))
    (Case (IsInsert b.mutation × HasValue cells.write b.start) (a ≡ AlreadyExists)
    (Case (b.mode ≡ Async) ((m : ℕ) × Promise m × Case (IsWithin b.max_commit m) (a ≡ Prewritten m) (a ≡ Prewritten 0))
    (a ≡ Prewritten 0)))))))))

-- The lock that an accepted prewrite puts: async with the minimum m, or where that is 0 two-phase,
-- with the minimum start + 1 and no secondaries.
abbrev pub lock_of : Prewrite → ℕ → Lock
lock_of b m = record {
  mutation = as_locked b.mutation;
  mode = cond (m == 0) TwoPhase Async;
  secondaries = cond (m == 0) [] b.others;
  start = b.start;
  min = cond (m == 0) (b.start + 1) m;
  ttl = b.ttl;
  primary = b.primary;
}

-- a lock that stands stays
abbrev pub locked : Option Lock → Prewrite → ℕ → Lock
locked None b m = lock_of b m
locked (Some lock) b m = lock

-- the check of an insert is a read at the start of its transaction
abbrev pub check_by : Mutation → ℕ → Option ℕ
check_by (mutation.Insert v) t = Some t
check_by _ t = None

-- The timestamp that a prewrite reads at: where its check was made, which is where a value stood in
-- the way, and where its lock was put. A lock that stood before was checked then.
abbrev pub read_by_prewrite : Answer → Option Lock → Prewrite → Option ℕ
read_by_prewrite AlreadyExists lock b = check_by b.mutation b.start
read_by_prewrite (Prewritten m) None b = check_by b.mutation b.start
read_by_prewrite _ lock b = None
