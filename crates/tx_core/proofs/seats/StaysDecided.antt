-- What is decided, accepted and shown stays so, however a world run grows.
use Rattle.std.proofs.Common.{◌≡◌, ◌≢◌, ◌<◌, ℕ, true, List, ◌∷◌, Some, None, refl, sym, ap, subst, ◌∙◌}
use Rattle.tx_types.specs.declared.key.Key.{Key}
use Rattle.tx_types.specs.declared.mutation.Fate.{Fate}
use Rattle.tx_machine.specs.Keys.{mutation_at}
use Rattle.tx_machine.specs.Machine.{State, Open, Done}
use Rattle.tx_core.specs.declared.event.Event.{Event}
use Rattle.tx_core.specs.declared.event.Event.TheVariants.{Drawn, Began, Declared, Answered, Stopped, Took}
use Rattle.tx_core.specs.Histories.{History, declared, set_of, set_at, is_first, Begins}
use Rattle.tx_core.specs.Decisions.{Acceptance, effect_in, accepted, AllAccepted, HasTwoPhaseLock, decision, first_decided, decided, Shows}
use Rattle.tx_core.specs.Allowed.{DrewAfterAll}
use Rattle.tx_core.specs.Worlds.{IsWorldRun}
use Rattle.tx_core.proofs.Basics.{some_of, some_same, is_some}
use Rattle.tx_core.proofs.seats.Beginnings.{kept_on}
use Rattle.tx_core.proofs.seats.Stays.{drawer_on, set_on, accepted_on, among_on}

-- a decision stands
decided_next : (h : History) (e : Event) (t : ℕ) (end : Fate) → decided h t ≡ Done end → decided (e ∷ h) t ≡ Done end
decided_next h (Took x) t end is =
    ap (first_decided (decision (set_at h t) (accepted (Took x ∷ h) t) (effect_in h x) t)) is
    ∙ stands (decision (set_at h t) (accepted (Took x ∷ h) t) (effect_in h x) t)
  where
    stands : (s : State) → first_decided s (Done end) ≡ Done end
    stands Open = refl
    stands (Done new) = refl
decided_next h (Drawn s n) t end is = is
decided_next h (Began u) t end is = is
decided_next h (Declared d) t end is = is
decided_next h (Answered u o) t end is = is
decided_next h (Stopped s) t end is = is

pub decided_on : (l h : History) → Begins l h → (t : ℕ) (end : Fate) → decided l t ≡ Done end → decided h t ≡ Done end
decided_on l h b t end = kept_on (λ x. decided x t ≡ Done end) (λ x e is. decided_next x e t end is) l h b

pub two_phase_on : (l h : History) → Begins l h → (t : ℕ) → HasTwoPhaseLock l t → HasTwoPhaseLock h t
two_phase_on l h b t has =
    record {
      key = has.key;
      by = has.by;
      stands = accepted_on l h b t has.key has.by has.stands;
      two_phase =
          has.two_phase;
    }

module _ (bounds : List Key) (l h : History) (run : IsWorldRun bounds h) (b : Begins l h) (t : ℕ) where
  -- a set that has a first key is declared
  first_declared : (k : Key) → is_first (set_at l t) k ≡ true → declared l t ≢ None
  first_declared k is none =
      (let empty : is_first (set_of None) k ≡ true = ap (λ o. is_first (set_of o) k) (sym none) ∙ is in cc (empty))

  pub shown_on : (r : ℕ) → Shows l t r → Shows h t r
  shown_on r has =
      record {
        by = has.by;
        among = among_on l h b (Took has.by) has.among;
        info = has.info;
        told = has.told;
        primary = ap (λ s. is_first s has.info.key)
            (set_on bounds l h run b t (first_declared has.info.key has.primary)) ∙ has.primary;
        own = has.own;
        min = has.min;
      }

  module _ (some : declared l t ≢ None) (all : AllAccepted l t) where
    -- a key of the set has been accepted before
    accepted_before : (k : Key) → mutation_at (set_at h t) k ≢ None → (by : Acceptance) × (accepted l t k ≡ Some by)
    accepted_before k within =
        some_of (accepted l t k) (all k (subst (λ s. mutation_at s k ≢ None) (set_on bounds l h run b t some) within))

    pub all_accepted_on : AllAccepted h t
    all_accepted_on k within =
        (let was = accepted_before k within in is_some (accepted h t k) was.0 (accepted_on l h b t k was.0 was.1))

    -- each key was accepted, and its first acceptance stands
    pub drew_on : (c : ℕ) → DrewAfterAll l t c → DrewAfterAll h t c
    drew_on c drew =
        record {
          seat = drew.seat;
          of_start = drawer_on bounds l h run b t drew.seat drew.of_start;
          of_commit = drawer_on bounds l h run b c drew.seat drew.of_commit;
          after = λ k by within is. (
              let was = accepted_before k within in
              let same : was.0 ≡ by = some_same was.0 by (sym (accepted_on l h b t k was.0 was.1) ∙ is) in
              let inside : mutation_at (set_at l t) k ≢ None =
              subst (λ s. mutation_at s k ≢ None) (set_on bounds l h run b t some) within in
              subst (λ (y : Acceptance). y.at < c) same (drew.after k was.0 inside was.1)
              );
        }
