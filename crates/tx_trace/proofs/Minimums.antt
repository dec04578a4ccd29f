-- The greatest minimum of a set, and when all of its keys are accepted async.
use Rattle.std.proofs.Common.{◌≡◌, ◌≢◌, ◌⊎◌, inl, inr, ℕ, max, cond, List, [], ◌∷◌, Option, Some, None, bytes_eq, refl, sym, ap, subst, ◌∙◌, arith}
use Rattle.tx_types.specs.declared.key.Key.{Key}
use Rattle.tx_types.specs.declared.mutation.Change.{Change}
use Rattle.tx_types.specs.declared.mutation.Mode.{Mode}
use Rattle.tx_types.specs.declared.mutation.Mode.TheVariants.{TwoPhase, Async}
use Rattle.tx_machine.specs.Keys.{mutation_at}
use Rattle.tx_core.specs.Decisions.{Acceptance, async_minimum, greater, greatest}
use Rattle.tx_core.proofs.Basics.{key_test, key_same}
use Rattle.tx_trace.specs.Pending.{Accepted, minimum_in, greatest_in}

-- ---- one key

pub two_phase_minimum : (o : Option Acceptance) (by : Acceptance) → o ≡ Some by → by.lock.mode ≡ TwoPhase
    → async_minimum o ≡ None
two_phase_minimum o by e mode = ap async_minimum e ∙ go by.lock.mode mode
  where
    go : (m : Mode) → m ≡ TwoPhase → ◌≡◌ {A = Option ℕ} (elim m [ TwoPhase ↦ None | Async ↦ Some by.lock.min ]) None
    go m e = rw e refl

pub no_minimum : (o : Option Acceptance) → o ≡ None → async_minimum o ≡ None
no_minimum o e = ap async_minimum e

pub async_is : (o : Option Acceptance) (by : Acceptance) → o ≡ Some by → by.lock.mode ≡ Async
    → async_minimum o ≡ Some (minimum_in o)
async_is o by e mode = ap async_minimum e ∙ (go by.lock.mode mode ∙ ap (λ x. Some (minimum_in x)) (sym e))
  where
    go : (m : Mode) → m ≡ Async
        → ◌≡◌ {A = Option ℕ} (elim m [ TwoPhase ↦ None | Async ↦ Some by.lock.min ]) (Some by.lock.min)
    go m e = rw e refl

none_right : (o : Option ℕ) → greater o None ≡ None
none_right None = refl
none_right (Some m) = refl

-- ---- a set

-- one key of a set that is not accepted async
pub not_all : (accepted : Accepted) (set : List Change) (k : Key) → mutation_at set k ≢ None
    → async_minimum (accepted k) ≡ None → greatest accepted set ≡ None
not_all accepted [] k within e = absurd (within refl)
not_all accepted (c ∷ []) k within e =
    elim (key_test c.key k) [
      | inl x ↦ subst (λ q. async_minimum (accepted q) ≡ None) (sym x.1) e
      | inr x ↦ absurd (within (rw x.0 refl))
    ]
not_all accepted (c ∷ d ∷ cs) k within e =
    elim (key_test c.key k) [
      | inl x ↦ ap (λ o. greater o (greatest accepted (d ∷ cs)))
          (subst (λ q. async_minimum (accepted q) ≡ None) (sym x.1) e)
      | inr x ↦ (let more : mutation_at (d ∷ cs) k ≢ None = λ none. within (rw x.0 none) in
          ap (greater (async_minimum (accepted c.key))) (not_all accepted (d ∷ cs) k more e)
          ∙ none_right (async_minimum (accepted c.key)))
    ]

-- each key of a set is accepted async
abbrev pub AllAsync : Accepted → List Change → Type 0
AllAsync accepted set = (k : Key) → mutation_at set k ≢ None
    → (by : Acceptance) × (accepted k ≡ Some by) × (by.lock.mode ≡ Async)

first_within : (c : Change) (cs : List Change) → mutation_at (c ∷ cs) c.key ≢ None
first_within c cs none = (let e : Some c.mutation ≡ None = rw (key_same c.key) at none in cc e)

rest_within : (c : Change) (cs : List Change) (k : Key) → mutation_at cs k ≢ None → mutation_at (c ∷ cs) k ≢ None
rest_within c cs k within none =
    elim (key_test c.key k) [
      | inl x ↦ (let e : Some c.mutation ≡ None = rw x.0 at none in cc e)
      | inr x ↦ (let e : mutation_at cs k ≡ None = rw x.0 at none in within e)
    ]

pub all_async : (accepted : Accepted) (set : List Change) → set ≢ [] → AllAsync accepted set
    → greatest accepted set ≡ Some (greatest_in accepted set)
all_async accepted [] some all = absurd (some refl)
all_async accepted (c ∷ []) some all =
    let first = all c.key (first_within c []) in
    async_is (accepted c.key) first.0 first.1 first.2 ∙ ap Some (omega arith)
all_async accepted (c ∷ d ∷ cs) some all =
    let first = all c.key (first_within c (d ∷ cs)) in
    let rest = all_async accepted (d ∷ cs) (λ e. cc e) (λ k within. all k (rest_within c (d ∷ cs) k within)) in
    ap (λ o. greater o (greatest accepted (d ∷ cs))) (async_is (accepted c.key) first.0 first.1 first.2)
    ∙ ap (greater (Some (minimum_in (accepted c.key)))) rest

-- ---- one key more

module _ (old new : Accepted) (k : Key) (m : ℕ) (was : minimum_in (old k) ≡ 0) (is : minimum_in (new k)
    ≡ m) (others : (q : Key) → q ≢ k → new q ≡ old q) where
  -- the minimum that the key gives to a set, if it is there
  abbrev given : List Change → ℕ
  given [] = 0
  given (c ∷ cs) = cond (bytes_eq c.key k) m (given cs)

  greatest_with : (set : List Change) → greatest_in new set ≡ max (greatest_in old set) (given set)
  greatest_with [] = refl
  greatest_with (c ∷ cs) =
      elim (key_test c.key k) [
        | inl x ↦ (
            let now : minimum_in (new c.key) ≡ m = ap (λ q. minimum_in (new q)) x.1 ∙ is in
            let before : minimum_in (old c.key) ≡ 0 = ap (λ q. minimum_in (old q)) x.1 ∙ was in
            let le = given_upto cs in
            rw x.0 (omega (arith, now, before, le, greatest_with cs)))
        | inr x ↦ (
            let now : minimum_in (new c.key) ≡ minimum_in (old c.key) = ap minimum_in (others c.key x.1) in
            rw x.0 (omega (arith, now, greatest_with cs)))
      ]
    where
      given_upto : (cs : List Change) → ((given cs ≡ 0) ⊎ (given cs ≡ m))
      given_upto [] = inl refl
      given_upto (c ∷ cs) = elim (key_test c.key k) [ inl x ↦ inr (rw x.0 refl) | inr x ↦ rw x.0 (given_upto cs) ]

  given_within : (set : List Change) → mutation_at set k ≢ None → given set ≡ m
  given_within [] within = absurd (within refl)
  given_within (c ∷ cs) within =
      elim (key_test c.key k) [ inl x ↦ rw x.0 refl | inr x ↦ rw x.0 (given_within cs (λ none. within (rw x.0 none))) ]

  pub greatest_more : (set : List Change) → mutation_at set k ≢ None → greatest_in new set ≡ max (greatest_in old set) m
  greatest_more set within = greatest_with set ∙ ap (max (greatest_in old set)) (given_within set within)

-- the same acceptances
pub greatest_same : (old new : Accepted) → ((q : Key) → new q ≡ old q) → (set : List Change)
    → greatest_in new set ≡ greatest_in old set
greatest_same old new same [] = refl
greatest_same old new same (c ∷ cs) = omega (arith, ap minimum_in (same c.key), greatest_same old new same cs)

-- no key is accepted
pub greatest_none : (accepted : Accepted) → ((q : Key) → accepted q ≡ None) → (set : List Change)
    → greatest_in accepted set ≡ 0
greatest_none accepted none [] = refl
greatest_none accepted none (c ∷ cs) = omega (arith, ap minimum_in (none c.key), greatest_none accepted none cs)
