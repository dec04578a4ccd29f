-- A transaction's lock that is committed, or refused.
use Rattle.std.proofs.Common.{◌≡◌, ℕ, inr, refl, sym, subst, ◌∙◌, arith}
use Rattle.tx_types.specs.declared.mutation.Fate.{Fate}
use Rattle.tx_types.specs.declared.mutation.Fate.TheVariants.{Committed}
use Rattle.tx_plan.specs.declared.body.Commit.{Commit}
use Rattle.tx_plan.specs.declared.body.ResolveLock.{ResolveLock}
use Rattle.tx_plan.specs.declared.answer.Answer.{Answer}
use Rattle.tx_plan.specs.declared.answer.Answer.TheVariants.{Resolved, WriteConflict, CommitTsExpired}
use Rattle.tx_plan.specs.declared.view.LockHead.{LockHead}
use Rattle.tx_plan.specs.Cells.{Lock, Writes, Cells}
use Rattle.tx_plan.specs.Own.{is_rollback}
use Rattle.tx_plan.specs.Views.{HasOwnHead}
use Rattle.tx_plan.specs.LockCommit.{MayCommitAt, IsRefusal}
use Rattle.tx_plan.specs.Changes.{HasCommitAt}
use Rattle.tx_plan.specs.cases.Commit.{CommitsLock}
use Rattle.tx_plan.specs.cases.ResolveLock.{ResolvesLock}
use Rattle.tx_plan.specs.Answers.{leaves_on}
use Rattle.tx_plan.specs.declared.body.Body.TheVariants as asked

-- a refusal changes nothing
pub refused_commit : (cells : Cells) (b : Commit) (a : Answer) → IsRefusal a
    → cells ≡ leaves_on cells (asked.Commit b) a
refused_commit cells b (WriteConflict start commit) is = refl
refused_commit cells b (CommitTsExpired min) is = refl
refused_commit cells b _ is = absurd is

pub refused_resolve : (cells : Cells) (b : ResolveLock) (a : Answer) → IsRefusal a
    → cells ≡ leaves_on cells (asked.ResolveLock b) a
refused_resolve cells b (WriteConflict start commit) is = refl
refused_resolve cells b (CommitTsExpired min) is = refl
refused_resolve cells b _ is = absurd is

-- a transaction that is known to be committed is resolved as a commit is
pub resolves : (write : Writes) (start c : ℕ) (lock : Lock) (f : Fate) (a : Answer) → f ≡ Committed c
    → CommitsLock write start c lock Resolved a → ResolvesLock write start lock f a
resolves write start c lock f a e commits = subst (λ (g : Fate). ResolvesLock write start lock g a) (sym e) commits

module _ (cells : Cells) (start c : ℕ) (head : LockHead) (own : HasOwnHead cells.lock start head)
    (may : MayCommitAt cells.write start c own.lock) where
  -- where nothing refuses it, it is done
  pub not_refused : (done : Answer) → CommitsLock cells.write start c own.lock done done
  not_refused done = inr (λ below. omega (arith, below, may.upto), inr (may.unconflicted, refl))

  -- and what it takes for granted is so
  pub commit_applies : HasCommitAt cells c (is_rollback (cells.write c))
  commit_applies = record {
    lock = own.lock;
    stands = own.stands.stands;
    upto = may.upto;
    unconflicted = λ rec is. may.unconflicted rec record {
      stands = is.stands;
      other =
          λ e. is.other (e ∙ sym own.stands.own);
    };
    keeps_mark = refl;
  }
