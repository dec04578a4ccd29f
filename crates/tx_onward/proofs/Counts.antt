-- How many were not told of yet, as one transaction after another is noted.
use Rattle.std.proofs.Common.{◌≡◌, inl, inr, ℕ, zero, suc, ◌+◌, ◌<◌, ◌≤◌, Bool, true, false, List, [], ◌∷◌, length, get_or, refl, sym, ap, subst, ◌∙◌, arith}
use Rattle.std.specs.Prelude.{◌||◌, set}
use Rattle.std.proofs.lemmas.Bool.{cases_lt, false≢true}
use Rattle.std.proofs.lemmas.List.{get_or-set_same, get_or-set_other, get_or_past, length-set}
use Rattle.tx_onward.specs.Untold.{untold}

-- one fewer when one more is told of
pub fewer : (bs : List Bool) (i : ℕ) → i < length bs → get_or bs i false ≡ false → untold (set bs i true) < untold bs
fewer [] i h e = absurd (omega arith)
fewer (true ∷ bs) zero h e = absurd (false≢true (sym e))
fewer (false ∷ bs) zero h e = omega arith
fewer (true ∷ bs) (suc i) h e = fewer bs i (omega arith) e
fewer (false ∷ bs) (suc i) h e =
    let rest = fewer bs i (omega arith) e in omega arith

or_true : (b : Bool) → (b || true) ≡ true
or_true true = refl
or_true false = refl

-- those before a place are noted
pub record IsNoted (f : ℕ → Bool) (first told : List Bool) (more : Bool) (t : ℕ) : Type 0 where
  pub count : length told ≡ length first
  pub below : (u : ℕ) → u < t → get_or told u false ≡ (get_or first u false || f u)
  pub above : (u : ℕ) → t ≤ u → get_or told u false ≡ get_or first u false
  pub fewer_left : more ≡ true → untold told < untold first
  pub one : more ≡ true → (u : ℕ) × (f u ≡ true) × (get_or first u false ≡ false)
  pub none : more ≡ false → told ≡ first

-- none is noted yet
pub none_noted : (f : ℕ → Bool) (first : List Bool) → IsNoted f first first false 0
none_noted f first = record {
  count = refl;
  below = λ u h. absurd (omega arith);
  above = λ u h. refl;
  fewer_left = λ e. absurd (false≢true e);
  one = λ e. absurd (false≢true e);
  none = λ e. refl;
}

-- what is told of one more
now_told : (f : ℕ → Bool) (first told : List Bool) (more : Bool) (t u : ℕ) → IsNoted f first told more t
    → t < length told → f t ≡ true → u < t + 1 → get_or (set told t true) u false ≡ (get_or first u false || f u)
now_told f first told more t u n h is lt =
    elim (cases_lt u t) [
      | inl less ↦ get_or-set_other told t u true false (omega arith) ∙ n.below u less
      | inr le ↦
          let same : t ≡ u = omega arith in
          subst (λ v. get_or (set told t true) v false ≡ (get_or first v false || f v)) same
          (get_or-set_same told t true false h
          ∙ sym (or_true (get_or first t false)) ∙ ap (λ b. get_or first t false || b) (sym is))
    ]

-- there are fewer
now_fewer : (f : ℕ → Bool) (first told : List Bool) (more : Bool) (t : ℕ) → IsNoted f first told more t
    → t < length told → get_or told t false ≡ false → untold (set told t true) < untold first
now_fewer f first told true t n h new =
    let one = fewer told t h new in
    let rest = n.fewer_left refl in
    omega arith
now_fewer f first told false t n h new =
    subst (λ bs. untold (set told t true) < untold bs) (n.none refl) (fewer told t h new)

-- one more is told of
pub told_more : (f : ℕ → Bool) (first told : List Bool) (more : Bool) (t : ℕ) → IsNoted f first told more t
    → t < length told → get_or told t false ≡ false → f t ≡ true → IsNoted f first (set told t true) true (t + 1)
told_more f first told more t n h new is = record {
  count = length-set told t true ∙ n.count;
  below = λ u lt. now_told f first told more t u n h is lt;
  above = λ u le. get_or-set_other told t u true false (omega arith) ∙ n.above u (omega arith);
  fewer_left = λ e. now_fewer f first told more t n h new;
  one = λ e. (t, is, sym (n.above t (omega arith)) ∙ new);
  none = λ e. absurd (false≢true (sym e));
}

-- what is told where one is not, or was told of before
still_told : (f : ℕ → Bool) (first told : List Bool) (more : Bool) (t u : ℕ) → IsNoted f first told more t
    → (get_or told t false || f t) ≡ get_or told t false → u < t + 1
    → get_or told u false ≡ (get_or first u false || f u)
still_told f first told more t u n same lt =
    elim (cases_lt u t) [
      | inl less ↦ n.below u less
      | inr le ↦
          let at : t ≡ u = omega arith in
          subst (λ v. get_or told v false ≡ (get_or first v false || f v)) at
          (sym same ∙ ap (λ b. b || f t) (n.above t (omega arith)))
    ]

-- one is not, or was told of before
pub told_as_before : (f : ℕ → Bool) (first told : List Bool) (more : Bool) (t : ℕ) → IsNoted f first told more t
    → (get_or told t false || f t) ≡ get_or told t false → IsNoted f first told more (t + 1)
told_as_before f first told more t n same = record {
  count = n.count;
  below = λ u lt. still_told f first told more t u n same lt;
  above = λ u le. n.above u (omega arith);
  fewer_left = n.fewer_left;
  one = n.one;
  none = n.none;
}

-- the next one is noted
pub next : (f : ℕ → Bool) (first told after : List Bool) (more new : Bool) (t : ℕ) → IsNoted f first told more t
    → t < length told
    → (new ≡ true → (get_or told t false ≡ false) × (f t ≡ true) × (after ≡ set told t true))
    → (new ≡ false → (after ≡ told) × ((get_or told t false || f t) ≡ get_or told t false))
    → IsNoted f first after (new || more) (t + 1)
next f first told after more true t n h fresh_so same_so =
    let (fresh, is, e) = fresh_so refl in
    subst (λ bs. IsNoted f first bs true (t + 1)) (sym e) (told_more f first told more t n h fresh is)
next f first told after more false t n h fresh_so same_so =
    let (e, same) = same_so refl in
    subst (λ bs. IsNoted f first bs more (t + 1)) (sym e) (told_as_before f first told more t n same)

-- all are noted
pub all_noted : (f : ℕ → Bool) (first told : List Bool) (more : Bool) (n : ℕ) → IsNoted f first told more n
    → length first ≤ n → ((u : ℕ) → length first ≤ u → f u ≡ false)
    → (u : ℕ) → get_or told u false ≡ (get_or first u false || f u)
all_noted f first told more n is long past u =
    elim (cases_lt u n) [
      | inl less ↦ is.below u less
      | inr le ↦
          let behind : length first ≤ u = omega (arith, long, le) in
          let here : get_or told u false ≡ false =
          get_or_past told u false (subst (λ m. m ≤ u) (sym is.count) behind) in
          let there : get_or first u false ≡ false = get_or_past first u false behind in
          here ∙ sym (ap (λ b. b || f u) there ∙ past u behind)
    ]
