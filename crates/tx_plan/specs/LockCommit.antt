-- How the lock of a transaction is committed, or refused.
use Rattle.std.specs.Prelude.{ℕ, ◌≤◌}
use Rattle.tx_types.specs.declared.mutation.Fate.{Fate}
use Rattle.tx_types.specs.declared.mutation.Fate.TheVariants as fate
use Rattle.tx_plan.specs.declared.answer.Answer.{Answer}
use Rattle.tx_plan.specs.declared.answer.Answer.TheVariants.{WriteConflict, CommitTsExpired}
use Rattle.tx_plan.specs.Cells.{Lock, CommitRecord, Writes}
use Rattle.tx_plan.specs.Own.{OthersCommit}
use Rattle.tx_plan.specs.cases.Commit.{CommitsLock}

-- a transaction's lock may be committed at c: not below its minimum, and not where another
-- transaction committed
pub record MayCommitAt (write : Writes) (start c : ℕ) (lock : Lock) : Type 0 where
  pub upto : lock.min ≤ c
  pub unconflicted : (rec : CommitRecord) → OthersCommit write start c rec → ⊥

-- the refusals of a commit
abbrev pub IsRefusal : Answer → Type 0
IsRefusal (WriteConflict start commit) = Unit {0}
IsRefusal (CommitTsExpired min) = Unit {0}
IsRefusal _ = ⊥

-- this refuses to commit the lock at c
pub record RefusesCommit (write : Writes) (start c : ℕ) (lock : Lock) (a : Answer) : Type 0 where
  pub refusal : IsRefusal a
  pub decides : (done : Answer) → CommitsLock write start c lock done a

-- the timestamp at which a transaction of this fate is committed, or 0
abbrev pub commit_in : Fate → ℕ
commit_in (fate.Committed c) = c
commit_in fate.Aborted = 0
