-- What the changes of a plan make of the cells of a key, and what they take for granted there.
use Rattle.std.specs.Prelude.{◌≡◌, ℕ, ◌<◌, ◌≤◌, ◌==◌, Bool, true, false, cond, [], Option, Some, None}
use Rattle.tx_types.specs.declared.mutation.Mode.TheVariants.{TwoPhase, Async}
use Rattle.tx_types.specs.Kinds.{as_locked}
use Rattle.tx_plan.specs.declared.body.Prewrite.{Prewrite}
use Rattle.tx_plan.specs.declared.key_change.KeyChange.{KeyChange}
use Rattle.tx_plan.specs.declared.key_change.KeyChange.TheVariants as change
use Rattle.tx_plan.specs.declared.key_change.Left.{Left}
use Rattle.tx_plan.specs.declared.key_change.Left.TheVariants as left
use Rattle.tx_plan.specs.declared.key_change.NewLock.{NewLock}
use Rattle.tx_plan.specs.Cells.{Lock, CommitRecord, Write, CommitOf, Rollback, Writes, Cells, with_lock, with_write}
use Rattle.tx_plan.specs.Own.{OwnLock, OwnCommit, OthersCommit, OwnRollback, committed, marked, is_rollback}
use Rattle.tx_plan.specs.cases.TxnHeartBeat.{with_ttl}
use Rattle.tx_plan.specs.cases.CheckTxnStatus.{with_minimum}

-- what f makes of the cells where there is a lock; else they stay
abbrev pub on_lock : Cells → (Lock → Cells) → Cells
on_lock cells f = elim cells.lock [ None ↦ cells | Some lock ↦ f lock ]

-- what is of a version, with the mark where it is a commit record
abbrev pub mark : Option Write → Option Write
mark None = None
mark (Some Rollback) = Some Rollback
mark (Some (CommitOf rec)) = Some (CommitOf (marked rec))

-- write records after the rollback of the transaction that started at t is left
abbrev pub after_left : Writes → ℕ → Left → Writes
after_left write t left.Already = write
after_left write t left.Record = with_write write t Rollback
after_left write t left.Mark = λ q. cond (t == q) (mark (write q)) (write q)

-- What a change makes of the cells. A lock is put by `after_put`, with the prewrite
-- that asks for it.
abbrev pub changed : Cells → KeyChange → Cells
changed cells change.Nothing = cells
changed cells (change.Lock new) = cells
changed cells (change.Ttl ttl) = on_lock cells (λ lock. with_lock cells (Some (with_ttl lock ttl)))
changed cells (change.Minimum min) = on_lock cells (λ lock. with_lock cells (Some (with_minimum lock min)))
changed cells (change.Commit c overlapped) = on_lock cells (λ lock. record {
  lock = None;
  write = with_write cells.write c (CommitOf (committed lock overlapped));
})
changed cells (change.RollBack t removes_lock left) = record {
  lock = cond removes_lock None cells.lock;
  write = after_left cells.write t left;
}

-- ---- what a change takes for granted

-- there is a lock
abbrev pub SomeLock : Option Lock → Type 0
SomeLock found = (lock : Lock) × (found ≡ Some lock)

-- a minimum never falls
pub record RaisesMinimum (found : Option Lock) (min : ℕ) : Type 0 where
  pub lock : Lock
  pub stands : found ≡ Some lock
  pub raises : lock.min ≤ min

-- a lock is committed at its minimum or above, where no other transaction committed, and it keeps
-- the rollback of the transaction that started there as the mark
pub record HasCommitAt (cells : Cells) (c : ℕ) (overlapped : Bool) : Type 0 where
  pub lock : Lock
  pub stands : cells.lock ≡ Some lock
  pub upto : lock.min ≤ c
  pub unconflicted : (rec : CommitRecord) → OthersCommit cells.write lock.start c rec → ⊥
  pub keeps_mark : overlapped ≡ is_rollback (cells.write c)

-- the lock that is removed is the transaction's own
abbrev pub IsRemoved : Option Lock → ℕ → Bool → Type 0
IsRemoved found t true = (lock : Lock) × OwnLock found t lock
IsRemoved found t false = Unit {0}

-- A rollback is its own record where no other transaction committed, and else the mark on
-- that commit record.
abbrev pub IsLeft : Writes → ℕ → Left → Type 0
IsLeft write t left.Already = OwnRollback write t
IsLeft write t left.Record = (rec : CommitRecord) → OthersCommit write t t rec → ⊥
IsLeft write t left.Mark = (rec : CommitRecord) × OthersCommit write t t rec

-- What a change takes for granted is so. A lock is not put without its prewrite.
abbrev pub Applies : Cells → KeyChange → Type 0
Applies cells change.Nothing = Unit {0}
Applies cells (change.Lock new) = ⊥
Applies cells (change.Ttl ttl) = SomeLock cells.lock
Applies cells (change.Minimum min) = RaisesMinimum cells.lock min
Applies cells (change.Commit c overlapped) = HasCommitAt cells c overlapped
Applies cells (change.RollBack t removes_lock left) = IsRemoved cells.lock t removes_lock × IsLeft cells.write t left

-- ---- prewrites

-- the lock that a prewrite puts
abbrev pub put : Prewrite → NewLock → Lock
put b new = record {
  mutation = as_locked b.mutation;
  mode = new.mode;
  secondaries = elim new.mode [ TwoPhase ↦ [] | Async ↦ b.others ];
  start = b.start;
  min = new.min;
  ttl = b.ttl;
  primary = b.primary;
}

-- the lock that a change puts, if it puts one
abbrev pub new_lock : KeyChange → Option NewLock
new_lock (change.Lock new) = Some new
new_lock _ = None

-- the cells after a prewrite that puts this lock, or none
abbrev pub after_put : Cells → Prewrite → Option NewLock → Cells
after_put cells b None = cells
after_put cells b (Some new) = with_lock cells (Some (put b new))

-- a transaction locks a free key on which nothing of it is, with a minimum above its start
pub record CanPut (cells : Cells) (b : Prewrite) (new : NewLock) : Type 0 where
  pub free : cells.lock ≡ None
  pub uncommitted : (c : ℕ) → OwnCommit cells.write b.start c → ⊥
  pub not_rolled_back : OwnRollback cells.write b.start → ⊥
  pub above : b.start < new.min
