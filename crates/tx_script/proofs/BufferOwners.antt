-- What sessions have in their buffers was entered under their names.
use Rattle.std.proofs.Common.{◌≡◌, ◌≢◌, ◌⊎◌, inl, inr, ℕ, zero, suc, ◌+◌, true, false, Bool, cond, List, [], ◌∷◌, slice_get, slice_set, Option, Some, None, option_map, bytes_eq, refl, sym, ap, subst, ◌∙◌, arith}
use Rattle.std.specs.Map.{update}
use Rattle.tx_types.specs.declared.key.Key.{Key}
use Rattle.tx_types.specs.declared.value.Value.{Value}
use Rattle.tx_core.proofs.Basics.{key_true, key_same, some_same}
use Rattle.tx_transaction.specs.Sessions.{SessionState, begun}
use Rattle.tx_steps.specs.Steps.{Text}
use Rattle.tx_engine.specs.Semantics.{SlotState, free, session, first_free}
use Rattle.tx_evidence.specs.Tells.{Entered}
use Rattle.tx_evidence.specs.Buffers.{AllBy}
use Rattle.tx_evidence.proofs.Buffers.{all_more}

-- ---- slots

get_here : (xs : List SlotState) (k : ℕ) (x y : SlotState) → slice_get xs k ≡ Some x
    → slice_get (slice_set xs k y) k ≡ Some y
get_here [] k x y is = absurd (cc (is))
get_here (z ∷ xs) zero x y is = refl
get_here (z ∷ xs) (suc k) x y is = get_here xs k x y is

get_other : (xs : List SlotState) (k j : ℕ) (y : SlotState) → j ≢ k → slice_get (slice_set xs k y) j ≡ slice_get xs j
get_other [] k j y other = refl
get_other (z ∷ xs) zero zero y other = absurd (other refl)
get_other (z ∷ xs) zero (suc j) y other = refl
get_other (z ∷ xs) (suc k) zero y other = refl
get_other (z ∷ xs) (suc k) (suc j) y other = get_other xs k j y (λ same. other (ap suc same))

pub first_is_free : (xs : List SlotState) (k : ℕ) → first_free xs ≡ Some k → slice_get xs k ≡ Some free
first_is_free [] k is = absurd (cc (is))
first_is_free (free ∷ xs) k is = subst (λ j. slice_get (free ∷ xs) j ≡ Some free) (some_same 0 k is) refl
first_is_free (session s ∷ xs) k is = go (first_free xs) is (λ j here. first_is_free xs j here)
  where
    go : (o : Option ℕ) → option_map (λ j. j + 1) o ≡ Some k
        → ((j : ℕ) → o ≡ Some j → slice_get xs j ≡ Some free) → slice_get (session s ∷ xs) k ≡ Some free
    go None none on = absurd (cc (none))
    go (Some j) some on =
        let next : suc j ≡ j + 1 = omega arith in
        subst (λ i. slice_get (session s ∷ xs) i ≡ Some free) (next ∙ some_same (j + 1) k some) (on j refl)

-- ---- all sessions

-- a live session has this name at this slot
abbrev pub IsLive : (List ℕ → Option ℕ) → List SlotState → Text → ℕ → SessionState → Type 0
IsLive names slots q k s = (names q ≡ Some k) × (slice_get slots k ≡ Some (session s))

-- each name has a live session of its own, whose buffer was entered under that name
pub record AllOwn (entered : Entered) (names : List ℕ → Option ℕ) (slots : List SlotState) : Type 0 where
  pub live : (q : Text) (k : ℕ) → names q ≡ Some k → (s : SessionState) × (slice_get slots k ≡ Some (session s))
  pub one : (p q : Text) (k : ℕ) → names p ≡ Some k → names q ≡ Some k → p ≡ q
  pub own : (q : Text) (k : ℕ) (s : SessionState) → IsLive names slots q k s → AllBy (entered q) s.buffer

pub own_more : (entered later : Entered) (names : List ℕ → Option ℕ) (slots : List SlotState)
    → ((q : Text) (k : Key) (o : Option Value) → entered q k o → later q k o) → AllOwn entered names slots
    → AllOwn later names slots
own_more entered later names slots f x = record {
  live = x.live;
  one = x.one;
  own = λ q k s l. all_more (entered q) (later q) (f q) s.buffer (x.own q k s l);
}

same_test : (j k : ℕ) → (j ≡ k) ⊎ (j ≢ k)
same_test zero zero = inl refl
same_test zero (suc k) = inr (λ e. omega (arith, e))
same_test (suc j) zero = inr (λ e. omega (arith, e))
same_test (suc j) (suc k) = elim (same_test j k) [ inl e ↦ inl (ap suc e) | inr n ↦ inr (λ e. n (omega (arith, e))) ]

session_same : (t u : SessionState) → session t ≡ session u → t ≡ u
session_same t u e = cc (e)

free_session : (x : Option SlotState) (s : SessionState) → x ≡ Some free → x ≡ Some (session s) → ⊥
free_session x s is also = cc (is, also)

module _ (entered : Entered) (names : List ℕ → Option ℕ) (slots : List SlotState) (x : AllOwn entered names slots) where
  -- the session of a name has another state
  module _ (name : Text) (k : ℕ) (s t : SessionState) (here : IsLive names slots name k s)
      (by : AllBy (entered name) t.buffer) where
    abbrev next : List SlotState
    next = slice_set slots k (session t)

    set_live : (q : Text) (j : ℕ) → names q ≡ Some j → (j ≡ k) ⊎ (j ≢ k)
        → (u : SessionState) × (slice_get next j ≡ Some (session u))
    set_live q j is (inl same) =
        (t, ap (slice_get next) same ∙ get_here slots k (session s) (session t) here.1)
    set_live q j is (inr other) = ((x.live q j is).0, get_other slots k j (session t) other ∙ (x.live q j is).1)

    set_own : (q : Text) (j : ℕ) (u : SessionState) → IsLive names next q j u → (j ≡ k) ⊎ (j ≢ k)
        → AllBy (entered q) u.buffer
    set_own q j u live (inl same) =
        let mine : name ≡ q = x.one name q k here.0 (live.0 ∙ ap (λ i. Some i) same) in
        let is : session t ≡ session u = some_same (session t) (session u)
        (sym (get_here slots k (session s) (session t) here.1) ∙ ap (slice_get next) (sym same) ∙ live.1) in
        subst (λ n. AllBy (entered n) u.buffer) mine (subst (λ (v : SessionState). AllBy (entered name) v.buffer)
        (session_same t u is) by)
    set_own q j u live (inr other) = x.own q j u (live.0, sym (get_other slots k j (session t) other) ∙ live.1)

    pub own_set : AllOwn entered names next
    own_set = record {
      live = λ q j is. set_live q j is (same_test j k);
      one = x.one;
      own = λ q j u live. set_own q j u live (same_test j k);
    }

  -- a name has a new session, at a slot that was free
  module _ (name : Text) (k start : ℕ) (empty : slice_get slots k ≡ Some free) where
    abbrev fresh_slots : List SlotState
    fresh_slots = slice_set slots k (session (begun start))

    abbrev fresh_names : List ℕ → Option ℕ
    fresh_names = update bytes_eq names name (Some k)

    never : (q : Text) → names q ≡ Some k → ⊥
    never q is = free_session (slice_get slots k) (x.live q k is).0 empty (x.live q k is).1

    -- what a name was given
    begun_by : (q : Text) (j : ℕ) (b : Bool) → cond b (Some k) (names q) ≡ Some j
        → ((b ≡ true) × (j ≡ k)) ⊎ ((b ≡ false) × (names q ≡ Some j) × (j ≢ k))
    begun_by q j true is = inl (refl, sym (some_same k j is))
    begun_by q j false is = inr (refl, is, λ same. never q (is ∙ ap (λ i. Some i) same))

    begun_live : (q : Text) (j : ℕ) → fresh_names q ≡ Some j
        → (s : SessionState) × (slice_get fresh_slots j ≡ Some (session s))
    begun_live q j is = elim (begun_by q j (bytes_eq name q) is) [
      | inl y ↦ (begun start, ap (slice_get fresh_slots) y.1 ∙ get_here slots k free (session (begun start)) empty)
      | inr y ↦ ((x.live q j y.1).0, get_other slots k j (session (begun start)) y.2 ∙ (x.live q j y.1).1)
    ]

    begun_one : (p q : Text) (j : ℕ) → fresh_names p ≡ Some j → fresh_names q ≡ Some j → p ≡ q
    begun_one p q j is also = elim (begun_by p j (bytes_eq name p) is) [
      | inl y ↦ elim (begun_by q j (bytes_eq name q) also) [
        | inl z ↦ sym (key_true name p y.0) ∙ key_true name q z.0
        | inr z ↦ absurd (z.2 y.1)
      ]
      | inr y ↦ elim (begun_by q j (bytes_eq name q) also) [
        | inl z ↦ absurd (y.2 z.1)
        | inr z ↦ x.one p q j y.1 z.1
      ]
    ]

    begun_own : (q : Text) (j : ℕ) (u : SessionState) → IsLive fresh_names fresh_slots q j u
        → AllBy (entered q) u.buffer
    begun_own q j u live = elim (begun_by q j (bytes_eq name q) live.0) [
      | inl y ↦ (let is : session (begun start) ≡ session u =
          some_same (session (begun start)) (session u) (sym (get_here slots k free (session (begun start)) empty)
          ∙ ap (slice_get fresh_slots) (sym y.1) ∙ live.1) in
          subst (λ (v : SessionState). AllBy (entered q) v.buffer) (session_same (begun start) u is) tt)
      | inr y ↦ x.own q j u (y.1, sym (get_other slots k j (session (begun start)) y.2) ∙ live.1)
    ]

    pub own_begun : AllOwn entered fresh_names fresh_slots
    own_begun = record { live = begun_live; one = begun_one; own = begun_own }

  -- a session is gone
  module _ (name : Text) (k : ℕ) (named : names name ≡ Some k) where
    abbrev less_slots : List SlotState
    less_slots = slice_set slots k free

    abbrev less_names : List ℕ → Option ℕ
    less_names = update bytes_eq names name None

    gone_by : (q : Text) (j : ℕ) (b : Bool) → bytes_eq name q ≡ b → cond b None (names q) ≡ Some j
        → (names q ≡ Some j) × (j ≢ k)
    gone_by q j true test is = absurd (cc (is))
    gone_by q j false test is = (
      is,
      λ same. cc (sym test ∙ ap (λ n. bytes_eq n q)
          (x.one name q k named (is ∙ ap (λ i. Some i) same)) ∙ key_same q),
    )

    abbrev others : (q : Text) (j : ℕ) → less_names q ≡ Some j → (names q ≡ Some j) × (j ≢ k)
    others q j is = gone_by q j (bytes_eq name q) refl is

    gone_live : (q : Text) (j : ℕ) → less_names q ≡ Some j
        → (s : SessionState) × (slice_get less_slots j ≡ Some (session s))
    gone_live q j is = (let y = others q j is in
        ((x.live q j y.0).0, get_other slots k j free y.1 ∙ (x.live q j y.0).1))

    pub own_gone : AllOwn entered less_names less_slots
    own_gone = record {
      live = gone_live;
      one = λ p q j is also. x.one p q j (others p j is).0 (others q j also).0;
      own = λ q j u live. (let y = others q j live.0 in
          x.own q j u (y.0, sym (get_other slots k j free y.1) ∙ live.1));
    }

-- nobody lives yet
pub own_none : (entered : Entered) (slots : List SlotState) → AllOwn entered (λ q. None) slots
own_none entered slots = record {
  live = λ q k is. absurd (cc (is));
  one = λ p q k is also. absurd (cc (is));
  own = λ q k s live. absurd (cc (live.0));
}
