-- CheckSecondaryLocks: what stands of an async transaction on a key; where nothing
-- does, it never will.
use Rattle.std.specs.Prelude.{◌≡◌, ℕ, ◌<◌}
use Rattle.tx_plan.specs.declared.body.CheckSecondaryLocks.{CheckSecondaryLocks}
use Rattle.tx_plan.specs.declared.answer.Answer.{Answer}
use Rattle.tx_plan.specs.declared.answer.Answer.TheVariants.{Committed, Missing, Locked, BelowSafePoint}
use Rattle.tx_plan.specs.Tables.{Case, CaseOf}
use Rattle.tx_plan.specs.Cells.{Cells, info_of}
use Rattle.tx_plan.specs.Own.{OwnLock, OwnCommit}

-- A start below the last collection is refused. The transaction's lock or commit is told; else its
-- rollback stands already, or is left.
abbrev pub AnswersCheckSecondaryLocks : Cells → ℕ → CheckSecondaryLocks → Answer → Type 0
AnswersCheckSecondaryLocks cells collected b a =
    Case (b.start < collected) (a ≡ BelowSafePoint collected)
    (CaseOf (λ lock. OwnLock cells.lock b.start lock) (λ lock. a ≡ Locked (info_of b.key lock))
    (CaseOf (λ c. OwnCommit cells.write b.start c) (λ c. a ≡ Committed c)
    (a ≡ Missing)))
