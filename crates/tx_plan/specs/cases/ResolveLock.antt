-- ResolveLock: the lock of a transaction whose fate is known is committed or rolled back.
use Rattle.std.specs.Prelude.{◌≡◌, ℕ, ◌<◌}
use Rattle.tx_types.specs.declared.mutation.Fate.{Fate}
use Rattle.tx_types.specs.declared.mutation.Fate.TheVariants as fate
use Rattle.tx_plan.specs.declared.body.ResolveLock.{ResolveLock}
use Rattle.tx_plan.specs.declared.answer.Answer.{Answer}
use Rattle.tx_plan.specs.declared.answer.Answer.TheVariants.{Resolved, BelowSafePoint}
use Rattle.tx_plan.specs.Tables.{Case, CaseOf}
use Rattle.tx_plan.specs.Cells.{Lock, Writes, Cells}
use Rattle.tx_plan.specs.Own.{OwnLock, on_own_lock, roll_back, commit_lock}
use Rattle.tx_plan.specs.cases.Commit.{CommitsLock}

-- The cases where the transaction's lock stands: it is rolled back, or committed with the
-- refusals of a commit.
abbrev pub ResolvesLock : Writes → ℕ → Lock → Fate → Answer → Type 0
ResolvesLock write start lock fate.Aborted a = a ≡ Resolved
ResolvesLock write start lock (fate.Committed c) a = CommitsLock write start c lock Resolved a

-- A start below the last collection is refused. The transaction's lock is resolved; where there is
-- none, nothing is to be done.
abbrev pub AnswersResolveLock : Cells → ℕ → ResolveLock → Answer → Type 0
AnswersResolveLock cells collected b a =
    Case (b.start < collected) (a ≡ BelowSafePoint collected)
    (CaseOf (λ lock. OwnLock cells.lock b.start lock) (λ lock. ResolvesLock cells.write b.start lock b.fate a)
    (a ≡ Resolved))

-- what resolving does to the transaction's lock
abbrev pub resolve : Cells → ℕ → Fate → Cells
resolve cells start fate.Aborted = on_own_lock cells start (λ lock. roll_back cells start)
resolve cells start (fate.Committed c) = commit_lock cells start c
