-- TxnHeartBeat: a transaction's lock lives longer.
use Rattle.std.specs.Prelude.{◌≡◌, ℕ, ◌<◌, max}
use Rattle.tx_plan.specs.declared.body.TxnHeartBeat.{TxnHeartBeat}
use Rattle.tx_plan.specs.declared.answer.Answer.{Answer}
use Rattle.tx_plan.specs.declared.answer.Answer.TheVariants.{Ttl, TxnLockNotFound, BelowSafePoint}
use Rattle.tx_plan.specs.Tables.{Case, CaseOf}
use Rattle.tx_plan.specs.Cells.{Lock, Cells}
use Rattle.tx_plan.specs.Own.{OwnLock}

-- A start below the last collection is refused. The time to live of the transaction's lock becomes
-- the greater of its own and the one that is asked for; where no lock of the transaction stands,
-- that is refused.
abbrev pub AnswersTxnHeartBeat : Cells → ℕ → TxnHeartBeat → Answer → Type 0
AnswersTxnHeartBeat cells collected b a =
    Case (b.start < collected) (a ≡ BelowSafePoint collected)
    (CaseOf (λ lock. OwnLock cells.lock b.start lock) (λ lock. a ≡ Ttl (max lock.ttl b.ttl))
    (a ≡ TxnLockNotFound))

-- a lock with another time to live
abbrev pub with_ttl : Lock → ℕ → Lock
with_ttl lock ttl = record lock { ttl = ttl }
