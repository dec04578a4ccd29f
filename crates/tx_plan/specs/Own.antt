-- What stands of a transaction on a key, and what may be done with it: a transaction is named by
-- its start timestamp.
use Rattle.std.specs.Prelude.{◌≡◌, ◌≢◌, ◌⊎◌, ℕ, ◌==◌, Bool, true, false, cond, Option, Some, None}
use Rattle.tx_plan.specs.Cells.{Lock, CommitRecord, Write, CommitOf, Rollback, Writes, Cells, with_lock, with_write}

-- its lock
pub record OwnLock (standing : Option Lock) (t : ℕ) (lock : Lock) : Type 0 where
  pub stands : standing ≡ Some lock
  pub own : lock.start ≡ t

-- its commit at c: a commit record at c with its start
pub record OwnCommit (write : Writes) (t c : ℕ) : Type 0 where
  pub rec : CommitRecord
  pub stands : write c ≡ Some (CommitOf rec)
  pub own : rec.start ≡ t

-- another transaction's commit at c
pub record OthersCommit (write : Writes) (t c : ℕ) (rec : CommitRecord) : Type 0 where
  pub stands : write c ≡ Some (CommitOf rec)
  pub other : rec.start ≢ t

-- its rollback: a rollback at its start, or the mark on another's commit record that stands there
abbrev pub OwnRollback : Writes → ℕ → Type 0
OwnRollback write t = (write t ≡ Some Rollback) ⊎ ((rec : CommitRecord) × OthersCommit write t t rec
    × (rec.overlapped_rollback ≡ true))

-- whether a lock is its own
abbrev pub is_own : Option Lock → ℕ → Bool
is_own None t = false
is_own (Some lock) t = lock.start == t

-- what f makes of the cells where its lock stands; else they stay
abbrev pub on_own_lock : Cells → ℕ → (Lock → Cells) → Cells
on_own_lock cells t f = elim cells.lock [ None ↦ cells | Some lock ↦ cond (lock.start == t) (f lock) cells ]

-- a commit record with the mark
abbrev pub marked : CommitRecord → CommitRecord
marked rec = record rec { overlapped_rollback = true }

-- what a rollback that is left makes of the record at its timestamp: another's commit record is
-- marked, else a rollback stands there
abbrev pub rolled : ℕ → Option Write → Write
rolled t (Some (CommitOf rec)) = cond (rec.start == t) Rollback (CommitOf record rec { overlapped_rollback = true })
rolled t _ = Rollback

-- leave a rollback
abbrev pub leave_rollback : Cells → ℕ → Cells
leave_rollback cells t = record cells { write = with_write cells.write t (rolled t (cells.write t)) }

-- roll back: its lock is removed where it stands, and a rollback is left
abbrev pub roll_back : Cells → ℕ → Cells
roll_back cells t = with_lock (leave_rollback cells t) (cond (is_own cells.lock t) None cells.lock)

-- whether a rollback stands of a version
abbrev pub is_rollback : Option Write → Bool
is_rollback (Some Rollback) = true
is_rollback _ = false

-- a lock as a commit record, with or without the mark
abbrev pub committed : Lock → Bool → CommitRecord
committed lock overlapped = record { mutation = lock.mutation; start = lock.start; overlapped_rollback = overlapped }

-- a lock's commit record, where this stood in its place: marked where that was a rollback
abbrev pub commit_of : Lock → Option Write → CommitRecord
commit_of lock before = committed lock (is_rollback before)

-- commit a lock at c: it is removed, and its commit record is at c
abbrev pub lock_committed : Cells → ℕ → Lock → Cells
lock_committed cells c lock = record {
  lock = None;
  write = with_write cells.write c (CommitOf (committed lock (is_rollback (cells.write c))));
}

-- commit its lock at c, where it is there
abbrev pub commit_lock : Cells → ℕ → ℕ → Cells
commit_lock cells t c = on_own_lock cells t (λ lock. lock_committed cells c lock)
