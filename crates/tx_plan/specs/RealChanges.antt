-- What a plan calls a change is one: the cells are others after it.
use Rattle.std.specs.Prelude.{◌≡◌, ◌≢◌, ℕ, ◌<◌, true, false, Option, Some}
use Rattle.tx_plan.specs.declared.key_change.KeyChange.{KeyChange}
use Rattle.tx_plan.specs.declared.key_change.KeyChange.TheVariants as change
use Rattle.tx_plan.specs.declared.key_change.Left.{Left}
use Rattle.tx_plan.specs.declared.key_change.Left.TheVariants as left
use Rattle.tx_plan.specs.Cells.{Lock, CommitRecord, Rollback, Writes, Cells}
use Rattle.tx_plan.specs.Own.{OthersCommit}

-- the lock lives longer
pub record Lengthens (found : Option Lock) (ttl : ℕ) : Type 0 where
  pub lock : Lock
  pub stands : found ≡ Some lock
  pub longer : lock.ttl < ttl

-- a minimum rises
pub record Pushes (found : Option Lock) (min : ℕ) : Type 0 where
  pub lock : Lock
  pub stands : found ≡ Some lock
  pub greater : lock.min < min

-- another transaction's commit record stands at t, without the mark
pub record IsUnmarked (write : Writes) (t : ℕ) : Type 0 where
  pub rec : CommitRecord
  pub others : OthersCommit write t t rec
  pub unmarked : rec.overlapped_rollback ≡ false

-- a rollback is left where it does not stand yet
abbrev pub LeavesNew : Writes → ℕ → Left → Type 0
LeavesNew write t left.Already = ⊥
LeavesNew write t left.Record = write t ≢ Some Rollback
LeavesNew write t left.Mark = IsUnmarked write t

-- so, or it stands already
abbrev pub IsNewOr : Writes → ℕ → Left → Type 0
IsNewOr write t left.Already = Unit {0}
IsNewOr write t left.Record = write t ≢ Some Rollback
IsNewOr write t left.Mark = IsUnmarked write t

-- A time to live and a minimum rise, and a rollback that removes no lock is left where it does not
-- stand yet. The other changes put or remove a lock.
abbrev pub Makes : Cells → KeyChange → Type 0
Makes cells change.Nothing = Unit {0}
Makes cells (change.Lock new) = Unit {0}
Makes cells (change.Ttl ttl) = Lengthens cells.lock ttl
Makes cells (change.Minimum min) = Pushes cells.lock min
Makes cells (change.Commit c overlapped) = Unit {0}
Makes cells (change.RollBack t true how) = Unit {0}
Makes cells (change.RollBack t false how) = LeavesNew cells.write t how
