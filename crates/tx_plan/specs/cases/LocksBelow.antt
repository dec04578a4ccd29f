-- LocksBelow: the locks of a region that started below a timestamp.
use Rattle.std.specs.Prelude.{◌≡◌, ℕ, ◌<◌, List, Contains, Some}
use Rattle.tx_types.specs.declared.key.Key.{Key}
use Rattle.tx_types.specs.declared.lock.LockInfo.{LockInfo}
use Rattle.tx_plan.specs.declared.body.LocksBelow.{LocksBelow}
use Rattle.tx_plan.specs.declared.answer.Answer.{Answer}
use Rattle.tx_plan.specs.declared.answer.Answer.TheVariants.{Locks}
use Rattle.tx_types.specs.Keys.{KeysRise}
use Rattle.tx_plan.specs.Cells.{Lock, Cells, info_of}

-- what is told of a lock that stands in the region and started below s
pub record IsLockBelow (cells : Key → Cells) (s : ℕ) (info : LockInfo) : Type 0 where
  pub lock : Lock
  pub stands : (cells info.key).lock ≡ Some lock
  pub told : info ≡ info_of info.key lock
  pub below : lock.start < s

-- the region's locks that started below s, all of them, keys rising
pub record AllBelow (cells : Key → Cells) (s : ℕ) (infos : List LockInfo) : Type 0 where
  pub rising : KeysRise (λ (info : LockInfo). info.key) infos
  pub stand : (info : LockInfo) → Contains infos info → IsLockBelow cells s info
  pub each : (info : LockInfo) → IsLockBelow cells s info → Contains infos info

-- It lists the region's locks that started below the timestamp, keys rising. Nothing changes.
abbrev pub AnswersLocksBelow : (Key → Cells) → LocksBelow → Answer → Type 0
AnswersLocksBelow cells b a = (infos : List LockInfo) × AllBelow cells b.safe infos × (a ≡ Locks infos)
