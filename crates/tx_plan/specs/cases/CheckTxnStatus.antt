-- CheckTxnStatus: a reader that met a lock asks the transaction's primary what has become of it.
use Rattle.std.specs.Prelude.{◌≡◌, ℕ, ◌+◌, ◌<◌, ◌≤◌, true, false}
use Rattle.tx_types.specs.declared.mutation.Mode.TheVariants.{Async}
use Rattle.tx_plan.specs.declared.body.CheckTxnStatus.{CheckTxnStatus}
use Rattle.tx_plan.specs.declared.answer.Answer.{Answer}
use Rattle.tx_plan.specs.declared.answer.Answer.TheVariants.{Committed, RolledBack, Locked, BelowSafePoint, FutureTimestamp, TxnNotFound}
use Rattle.tx_plan.specs.Tables.{Case, CaseOf}
use Rattle.tx_plan.specs.Cells.{Lock, Cells, info_of}
use Rattle.tx_plan.specs.Own.{OwnLock, OwnCommit, OwnRollback}

-- a lock is expired where its time to live is over
abbrev pub IsExpired : Lock → ℕ → Type 0
IsExpired lock current = lock.start + lock.ttl < current

-- a lock with another minimum
abbrev pub with_minimum : Lock → ℕ → Lock
with_minimum lock min = record lock { min = min }

-- The cases where the transaction's lock stands: an async lock is told unless the check is forced;
-- an expired one is rolled back; one whose minimum is at most the caller's timestamp is pushed
-- above it; else it is told.
abbrev pub ChecksLock : CheckTxnStatus → Lock → Answer → Type 0
ChecksLock b lock a =
    Case ((lock.mode ≡ Async) × (b.force_sync_commit ≡ false)) (a ≡ Locked (info_of b.key lock))
    (Case (lock.start + lock.ttl < b.current) (a ≡ RolledBack)
    (Case (lock.min ≤ b.caller) (a ≡ Locked (info_of b.key record lock { min = b.caller + 1 }))
    (a ≡ Locked (info_of b.key lock))))

-- A start below the last collection and a caller above the last number loaded are refused. Where
-- the transaction's lock stands, its cases decide; where it is gone, what stands of the transaction
-- is told; where nothing stands, a rollback is left if it is wanted.
abbrev pub AnswersCheckTxnStatus : Cells → ℕ → ℕ → CheckTxnStatus → Answer → Type 0
AnswersCheckTxnStatus cells collected loaded b a =
    Case (b.start < collected) (a ≡ BelowSafePoint collected)
    (Case (loaded < b.caller) (a ≡ FutureTimestamp loaded)
    (CaseOf (λ lock. OwnLock cells.lock b.start lock) (λ lock. ChecksLock b lock a)
    (CaseOf (λ c. OwnCommit cells.write b.start c) (λ c. a ≡ Committed c)
    (Case (OwnRollback cells.write b.start) (a ≡ RolledBack)
    (Case (b.rollback_if_not_exist ≡ true) (a ≡ RolledBack)
    (a ≡ TxnNotFound))))))
