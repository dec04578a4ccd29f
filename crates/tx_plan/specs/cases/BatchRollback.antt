-- BatchRollback: a transaction is rolled back on a key.
use Rattle.std.specs.Prelude.{◌≡◌, ℕ, ◌<◌}
use Rattle.tx_plan.specs.declared.body.BatchRollback.{BatchRollback}
use Rattle.tx_plan.specs.declared.answer.Answer.{Answer}
use Rattle.tx_plan.specs.declared.answer.Answer.TheVariants.{RolledBack, AlreadyCommitted, BelowSafePoint}
use Rattle.tx_plan.specs.Tables.{Case, CaseOf}
use Rattle.tx_plan.specs.Cells.{Cells}
use Rattle.tx_plan.specs.Own.{OwnLock, OwnCommit}

-- A start below the last collection is refused. The transaction's lock is rolled back; where it is
-- committed, that is told; else its rollback stands already, or is left. Another's lock stays.
abbrev pub AnswersBatchRollback : Cells → ℕ → BatchRollback → Answer → Type 0
AnswersBatchRollback cells collected b a =
    Case (b.start < collected) (a ≡ BelowSafePoint collected)
    (CaseOf (λ lock. OwnLock cells.lock b.start lock) (λ lock. a ≡ RolledBack)
    (CaseOf (λ c. OwnCommit cells.write b.start c) (λ c. a ≡ AlreadyCommitted c)
    (a ≡ RolledBack)))
