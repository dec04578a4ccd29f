-- Commit: a transaction's lock becomes its commit record.
use Rattle.std.specs.Prelude.{◌≡◌, ℕ, ◌<◌}
use Rattle.tx_plan.specs.declared.body.Commit.{Commit}
use Rattle.tx_plan.specs.declared.answer.Answer.{Answer}
use Rattle.tx_plan.specs.declared.answer.Answer.TheVariants.{Committed, WriteConflict, AlreadyRolledBack, CommitTsExpired, TxnLockNotFound, BelowSafePoint}
use Rattle.tx_plan.specs.Tables.{Case, CaseOf}
use Rattle.tx_plan.specs.Cells.{Lock, Writes, Cells}
use Rattle.tx_plan.specs.Own.{OwnLock, OwnCommit, OthersCommit, OwnRollback}

-- The cases where the transaction's lock stands: a commit below the lock's minimum, or at a
-- timestamp where another's commit record stands, is refused; else it is done.
abbrev pub CommitsLock : Writes → ℕ → ℕ → Lock → Answer → Answer → Type 0
CommitsLock write start commit lock done a =
    Case (commit < lock.min) (a ≡ CommitTsExpired lock.min)
    (CaseOf (λ rec. OthersCommit write start commit rec) (λ rec. a ≡ WriteConflict rec.start commit)
    (a ≡ done))

-- A start below the last collection is refused. The transaction's lock is committed; where it is
-- gone, what stands of the transaction is told.
abbrev pub AnswersCommit : Cells → ℕ → Commit → Answer → Type 0
AnswersCommit cells collected b a =
    Case (b.start < collected) (a ≡ BelowSafePoint collected)
    (CaseOf (λ lock. OwnLock cells.lock b.start lock) (λ lock. CommitsLock cells.write b.start b.commit lock
    (Committed b.commit) a)
    (CaseOf (λ c. OwnCommit cells.write b.start c) (λ c. a ≡ Committed c)
    (Case (OwnRollback cells.write b.start) (a ≡ AlreadyRolledBack)
    (a ≡ TxnLockNotFound))))
