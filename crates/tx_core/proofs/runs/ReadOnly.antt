-- Whose session answered read-only declares nothing.
use Rattle.std.proofs.Common.{◌≡◌, ℕ, inl, inr, true, List, [], ◌∷◌, None, refl, sym, subst}
use Rattle.tx_types.specs.declared.key.Key.{Key}
use Rattle.tx_core.specs.declared.event.Outcome.{Outcome}
use Rattle.tx_core.specs.declared.event.Outcome.TheVariants as outcome
use Rattle.tx_core.specs.declared.event.Event.{Event}
use Rattle.tx_core.specs.declared.event.Event.TheVariants.{Drawn, Began, Declared, Answered, Stopped, Took}
use Rattle.tx_core.specs.Histories.{History, declared, answered, Among}
use Rattle.tx_core.specs.Worlds.{MayCome, IsWorldRun}
use Rattle.tx_core.proofs.Basics.{nat_test, nat_same}
use Rattle.tx_core.proofs.seats.Beginnings.{begins_all}
use Rattle.tx_core.proofs.seats.Stays.{answered_on}

-- what its session answered is answered
is_answered : (h : History) (t : ℕ) (o : Outcome) → Among h (Answered t o) → answered h t ≡ true
is_answered [] t o among = absurd among
is_answered (e ∷ h) t o among =
    elim among [
      | inl now ↦ subst (λ x. answered (x ∷ h) t ≡ true) (sym now) (rw (nat_same t) refl)
      | inr before ↦ answered_on h (e ∷ h) (inr (begins_all h)) t (is_answered h t o before)
    ]

-- after that it declares no more
stays_undeclared : (bounds : List Key) (h : History) (e : Event) (t : ℕ) → MayCome bounds h e → answered h t ≡ true
    → declared h t ≡ None → declared (e ∷ h) t ≡ None
stays_undeclared bounds h (Declared d) t may done none =
    elim (nat_test d.start t) [
      | inl x ↦ (let fresh = may.unanswered in absurd (cc (fresh, x.1, done)))
      | inr x ↦ rw x.0 none
    ]
stays_undeclared bounds h (Drawn s n) t may done none = none
stays_undeclared bounds h (Began u) t may done none = none
stays_undeclared bounds h (Answered u o) t may done none = none
stays_undeclared bounds h (Stopped s) t may done none = none
stays_undeclared bounds h (Took x) t may done none = none

pub read_only : (bounds : List Key) (h : History) (t : ℕ) → IsWorldRun bounds h → Among h (Answered t outcome.ReadOnly)
    → declared h t ≡ None
read_only bounds [] t run among = absurd among
read_only bounds (e ∷ h) t run among =
    elim among [
      | inl now ↦ subst (λ x. declared (x ∷ h) t ≡ None) (sym now)
          (subst (MayCome bounds h) now run.1).2
      | inr before ↦ stays_undeclared bounds h e t run.1 (is_answered h t outcome.ReadOnly before)
          (read_only bounds h t run.0 before)
    ]
