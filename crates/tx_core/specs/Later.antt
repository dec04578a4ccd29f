-- How the cells of a key go on: what later cells may be, so that no state of a key comes back.
use Rattle.std.specs.Prelude.{◌≡◌, ◌≢◌, ◌⊎◌, ℕ, ◌<◌, ◌≤◌, true, Option, Some, None}
use Rattle.tx_types.specs.declared.key.Key.{Key}
use Rattle.tx_plan.specs.Cells.{Lock, Write, CommitOf, Rollback, Cells, Region}
use Rattle.tx_plan.specs.Own.{OwnRollback, marked}
use Rattle.tx_plan.specs.Sound.{IsSound}
use Rattle.tx_plan.specs.cases.Collect.{keeps}

-- a lock later on: the same one, which lives longer or has a greater minimum
pub record IsLengthened (a b : Lock) : Type 0 where
  pub mutation : a.mutation ≡ b.mutation
  pub mode : a.mode ≡ b.mode
  pub secondaries : a.secondaries ≡ b.secondaries
  pub start : a.start ≡ b.start
  pub min : a.min ≤ b.min
  pub ttl : a.ttl ≤ b.ttl
  pub primary : a.primary ≡ b.primary

abbrev pub LockLater : Option Lock → Option Lock → Type 0
LockLater None o = Unit {0}
LockLater (Some a) None = ⊥
LockLater (Some a) (Some b) = IsLengthened a b

-- a place of the records later on: a rollback may have become the mark of a commit, and a commit
-- may have the mark
abbrev pub WriteLater : Option Write → Option Write → Type 0
WriteLater None o = Unit {0}
WriteLater (Some Rollback) None = ⊥
WriteLater (Some Rollback) (Some Rollback) = Unit {0}
WriteLater (Some Rollback) (Some (CommitOf rec)) = rec.overlapped_rollback ≡ true
WriteLater (Some (CommitOf a)) None = ⊥
WriteLater (Some (CommitOf a)) (Some Rollback) = ⊥
WriteLater (Some (CommitOf a)) (Some (CommitOf b)) = (b ≡ a) ⊎ (b ≡ marked a)

-- Cells later on, with no collection between: no record goes, and as long as the records are the
-- same no lock goes.
pub record IsLater (a b : Cells) : Type 0 where
  pub write : (c : ℕ) → WriteLater (a.write c) (b.write c)
  pub lock : a.write ≡ b.write → LockLater a.lock b.lock

-- What the cells of each key meet, in a region that collected up to `collected`: they are sound,
-- the transaction of the lock is not rolled back there, and a collection at the same point would
-- drop nothing.
pub record IsRegular (collected : ℕ) (cells : Cells) : Type 0 where
  pub sound : IsSound cells
  pub unrolled : (lock : Lock) → cells.lock ≡ Some lock → OwnRollback cells.write lock.start → ⊥
  pub settled : (q : ℕ) → q < collected → cells.write q ≢ None → keeps cells.write collected q ≡ true

-- each key of a region does
pub record AreRegular (region : Region) : Type 0 where
  pub keys : (k : Key) → IsRegular region.collected (region.cells k)
  pub low : region.collected ≤ region.safe

-- A region goes on: it collected up to a greater timestamp, or each key's cells are later ones.
pub record GoesOn (before after : Region) : Type 0 where
  pub rises : before.collected ≤ after.collected
  pub safe : before.safe ≤ after.safe
  pub later : before.collected ≡ after.collected → (k : Key) → IsLater (before.cells k) (after.cells k)
