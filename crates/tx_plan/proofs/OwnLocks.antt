-- What a transaction's lock that is there, or not, makes of a rollback.
use Rattle.std.proofs.Common.{◌≡◌, ℕ, ◌==◌, inl, inr, cond, is_some, Option, Some, None, refl}
use Rattle.std.specs.Prelude.{MatchOption}
use Rattle.std.proofs.lemmas.Bool.{cases_Bool, eqb-true, eq-eqb}
use Rattle.tx_plan.specs.declared.view.LockHead.{LockHead}
use Rattle.tx_plan.specs.Cells.{Lock}
use Rattle.tx_plan.specs.Own.{OwnLock, is_own}
use Rattle.tx_plan.specs.Changes.{IsRemoved}
use Rattle.tx_plan.specs.Views.{HasOwnHead}

-- what is seen of its own lock
abbrev pub SeesOwn : Option Lock → ℕ → Option LockHead → Type 0
SeesOwn found t own = MatchOption own ((lock : Lock) → OwnLock found t lock → ⊥) (λ head. HasOwnHead found t head)

none_own : (found : Option Lock) (t : ℕ) → ((lock : Lock) → OwnLock found t lock → ⊥)
    → found ≡ cond (is_own found t) None found
none_own None t none = refl
none_own (Some lock) t none =
    elim (cases_Bool (lock.start == t)) [
      | inl e ↦ absurd (none lock (record { stands = refl; own = eqb-true lock.start t e }))
      | inr e ↦ rw e refl
    ]

pub lock_left : (found : Option Lock) (t : ℕ) (own : Option LockHead) → SeesOwn found t own
    → cond (is_some own) None found ≡ cond (is_own found t) None found
lock_left found t None sees = none_own found t sees
lock_left found t (Some head) sees = rw (sees.stands.stands, eq-eqb sees.lock.start t sees.stands.own) refl

pub removed : (found : Option Lock) (t : ℕ) (own : Option LockHead) → SeesOwn found t own
    → IsRemoved found t (is_some own)
removed found t None sees = tt
removed found t (Some head) sees = (sees.lock, sees.stands)
