-- What became of a transaction whose lock was met.
use Rattle.std.specs.Prelude.{◌≡◌, ℕ, Bool, true, false, nat_lt}
use Rattle.tx_types.specs.declared.mutation.Fate.TheVariants as fate
use Rattle.tx_machine.specs.Machine.{Done}
use Rattle.tx_core.specs.Histories.{History}
use Rattle.tx_core.specs.Decisions.{decided, Shows}
use Rattle.tx_types.specs.declared.mutation.Fate.{Fate}
use Rattle.tx_types.specs.declared.lock.LockInfo.{LockInfo}
use Rattle.tx_client.specs.declared.resolved.Status.{Status}
use Rattle.tx_client.specs.declared.resolved.Status.TheVariants as status

-- It is decided so; a pushed one has shown its own lock on its primary with this minimum; of a
-- waiting one nothing is said.
abbrev pub Ends : History → ℕ → Status → Type 0
Ends h t (status.Committed c) = decided h t ≡ Done (fate.Committed c)
Ends h t status.Aborted = decided h t ≡ Done fate.Aborted
Ends h t (status.Pushed m) = Shows h t m
Ends h t (status.Waiting why) = Unit {0}

-- whether reads at r may pass by its locks: it is aborted, or commits above r
abbrev pub lies_above : Status → ℕ → Bool
lies_above (status.Committed c) r = nat_lt r c
lies_above status.Aborted r = true
lies_above (status.Pushed m) r = nat_lt r m
lies_above (status.Waiting why) r = false

-- what a resolver found, and what it had seen
pub record FoundStatus : Type 0 where
  pub start : ℕ
  pub status : Status
  pub events : History

-- the fate of a transaction, and what was seen of it
pub record Decided : Type 0 where
  pub start : ℕ
  pub fate : Fate
  pub events : History

-- a lock that stood in the way, and what was seen of it
pub record Stopping : Type 0 where
  pub info : LockInfo
  pub events : History
