-- A region lists its locks that started below a timestamp.
use Rattle.std.proofs.Common.{ℕ, List, refl, sym, subst}
use Rattle.tx_types.specs.declared.key.Key.{Key}
use Rattle.tx_plan.specs.declared.body.Body.TheVariants as body
use Rattle.tx_plan.specs.declared.body.LocksBelow.{LocksBelow}
use Rattle.tx_plan.specs.declared.answer.Answer.{Answer}
use Rattle.tx_plan.specs.declared.answer.Answer.TheVariants.{Locks}
use Rattle.tx_plan.specs.cases.LocksBelow.{AnswersLocksBelow}
use Rattle.tx_core.specs.Histories.{History, left}
use Rattle.tx_core.proofs.requests.Good.{Good, Next, took}
use Rattle.tx_core.proofs.requests.OnRegion.{still}

module _ (bounds : List Key) (h : History) (good : Good bounds h) (n : ℕ) (l : ℕ) where
  pub next_locks_below : (b : LocksBelow) (a : Answer) → AnswersLocksBelow (left h n).cells b a
      → Next bounds h (took n (body.LocksBelow b) l a)
  next_locks_below b a (infos, all, e) =
      subst (λ y. Next bounds h (took n (body.LocksBelow b) l y)) (sym e)
      (still bounds h good n l (body.LocksBelow b) (Locks infos)
      (record {
        unnamed = refl;
        none = λ cells. refl;
        untold = λ u m. refl;
        unread = λ before. refl;
        unseen =
            refl;
        unnoted = λ e before. refl;
        unchecked = λ e. refl;
        floor = λ r. refl;
      }) (λ r. refl) tt)
