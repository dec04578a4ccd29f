-- Lists in which nothing is twice, and lists in the order of their keys: such a list is
-- told by its members.
use Rattle.std.proofs.Common.{◌≡◌, ◌≢◌, ◌⊎◌, ℕ, zero, suc, ◌+◌, ◌<◌, ◌≤◌, inl, inr, Bool, true, List, [], ◌∷◌, length, refl, sym, ap, ◌∙◌, subst, arith}
use Rattle.std.specs.Prelude.{AllPairs, Contains, IsTrue, slice_index_or}
use Rattle.std.specs.List.{filter}
use Rattle.std.proofs.lemmas.Bool.{cases_Bool}
use Rattle.tx_types.specs.declared.key.Key.{Key}
use Rattle.tx_types.specs.Keys.{key_lt, KeysRise}
use Rattle.tx_plan.proofs.KeyOrder.{lt_trans, lt_itself, lt_back}

-- ---- members

pub contains_none : {X : Type 0} (x : X) → Contains {X = X} [] x → ⊥
contains_none x c = omega (arith, c.1)

pub contains_first : {X : Type 0} (x : X) (xs : List X) → Contains (x ∷ xs) x
contains_first x xs = (zero, omega arith, refl)

pub contains_next : {X : Type 0} (x : X) (xs : List X) (y : X) → Contains xs y → Contains (x ∷ xs) y
contains_next x xs y c = (suc c.0, omega (arith, c.1), c.2)

pub contains_cases : {X : Type 0} (x : X) (xs : List X) (y : X) → Contains (x ∷ xs) y → (x ≡ y) ⊎ Contains xs y
contains_cases x xs y (zero, lt, e) = inl e
contains_cases x xs y (suc k, lt, e) = inr (k, omega (arith, lt), e)

-- a member of a filtered list is a member that passes the test
pub contains_passing : {X : Type 0} (test : X → Bool) (xs : List X) (x : X) → Contains xs x → test x ≡ true
    → Contains (filter test xs) x
contains_passing test [] x c e = absurd (contains_none x c)
contains_passing test (y ∷ xs) x c e =
    elim (cases_Bool (test y)) [
      | inl passes ↦ (rw passes (elim (contains_cases y xs x c) [
        | inl is ↦ subst (Contains (y ∷ filter test xs)) is (contains_first y (filter test xs))
        | inr later ↦ contains_next y (filter test xs) x (contains_passing test xs x later e)
      ]))
      | inr fails ↦ (rw fails (elim (contains_cases y xs x c) [
        | inl is ↦ absurd (let passes : test y ≡ true = ap test is ∙ e in (cc (passes, fails)))
        | inr later ↦ contains_passing test xs x later e
      ]))
    ]

pub passing_contained : {X : Type 0} (test : X → Bool) (xs : List X) (x : X) → Contains (filter test xs) x
    → Contains xs x × (test x ≡ true)
passing_contained test [] x c = absurd (contains_none x c)
passing_contained test (y ∷ xs) x c =
    elim (cases_Bool (test y)) [
      | inl passes ↦ (let d : Contains (y ∷ filter test xs) x = rw passes at c in
          elim (contains_cases y (filter test xs) x d) [
            | inl is ↦ (subst (Contains (y ∷ xs)) is (contains_first y xs), subst (λ z. test z ≡ true) is passes)
            | inr later ↦ (let rest = passing_contained test xs x later in (contains_next y xs x rest.0, rest.1))
          ])
      | inr fails ↦ (let d : Contains (filter test xs) x = rw fails at c in let rest = passing_contained test xs x d in
          (contains_next y xs x rest.0, rest.1))
    ]

-- ---- lists in which nothing is twice

abbrev pub Once : {X : Type 0} → List X → Type 0
Once [] = Unit {0}
Once {X} (x ∷ xs) = ((y : X) → Contains xs y → x ≢ y) × Once xs

pub once_pairs : {X : Type 0} (xs : List X) → AllPairs (λ x y. x ≢ y) xs → Once xs
once_pairs [] pairs = tt
once_pairs (x ∷ xs) pairs = (
  λ y c e. pairs zero (suc c.0) y (omega arith) (omega (arith, c.1)) (e ∙ sym c.2),
  once_pairs xs (λ i j d lt bound. pairs (suc i) (suc j) d (omega (arith, lt)) (omega (arith, bound))),
)

pub once_filter : {X : Type 0} (test : X → Bool) (xs : List X) → Once xs → Once (filter test xs)
once_filter test [] once = tt
once_filter test (x ∷ xs) once =
    elim (cases_Bool (test x)) [
      | inl passes ↦ (rw passes (λ y c. once.0 y (passing_contained test xs y c).0, once_filter test xs once.1))
      | inr fails ↦ (rw fails (once_filter test xs once.1))
    ]

-- a list without what is at an index
abbrev without : {X : Type 0} → List X → ℕ → List X
without [] k = []
without (y ∷ ys) zero = ys
without (y ∷ ys) (suc k) = y ∷ without ys k

length_without : {X : Type 0} (ys : List X) (k : ℕ) → k < length ys → length (without ys k) + 1 ≡ length ys
length_without [] k lt = absurd (omega (arith, lt))
length_without (y ∷ ys) zero lt = omega arith
length_without (y ∷ ys) (suc k) lt = let rest = length_without ys k (omega (arith, lt)) in omega (arith, rest)

still_contained : {X : Type 0} (ys : List X) (k : ℕ) (d z : X) → k < length ys → Contains ys z
    → (slice_index_or ys k d ≡ z → ⊥) → Contains (without ys k) z
still_contained [] k d z lt c other = absurd (contains_none z c)
still_contained (y ∷ ys) zero d z lt c other =
    elim (contains_cases y ys z c) [ inl e ↦ absurd (other e) | inr later ↦ later ]
still_contained (y ∷ ys) (suc k) d z lt c other =
    elim (contains_cases y ys z c) [
      | inl e ↦ subst (Contains (y ∷ without ys k)) e (contains_first y (without ys k))
      | inr later ↦ contains_next y (without ys k) z (still_contained ys k d z (omega (arith, lt)) later other)
    ]

-- such a list is no longer than one that has all its members
pub fewer : {X : Type 0} (xs ys : List X) → Once xs → ((x : X) → Contains xs x → Contains ys x) → length xs ≤ length ys
fewer [] ys once all = omega arith
fewer (x ∷ xs) ys once all =
    let at = all x (contains_first x xs) in
    let rest = fewer xs (without ys at.0) once.1
    (λ z c. still_contained ys at.0 x z at.1 (all z (contains_next x xs z c)) (λ e. once.0 z c (sym at.2 ∙ e))) in
    omega (arith, rest, length_without ys at.0 at.1)

-- ---- lists in the order of their keys

module _ {X : Type 0} (key : X → Key) where
  -- each key comes before all that follow
  abbrev pub InOrder : List X → Type 0
  InOrder [] = Unit {0}
  InOrder (x ∷ xs) = ((y : X) → Contains xs y → IsTrue (key_lt (key x) (key y))) × InOrder xs

  -- so nothing is in it twice
  pub order_once : (xs : List X) → InOrder xs → Once xs
  order_once [] h = tt
  order_once (x ∷ xs) h =
      (λ y c e. lt_itself (key x) (subst (λ z. IsTrue (key_lt (key x) (key z))) (sym e) (h.0 y c)), order_once xs h.1)

  -- a list whose neighbours are in order is in order
  pub order_one : (x : X) → InOrder (x ∷ [])
  order_one x = (λ y c. absurd (contains_none y c), tt)

  pub order_more : (x y : X) (xs : List X) → IsTrue (key_lt (key x) (key y)) → InOrder (y ∷ xs) → InOrder (x ∷ y ∷ xs)
  order_more x y xs lt h = (
    λ z c. elim (contains_cases y xs z c) [
      | inl e ↦ subst (λ w. IsTrue (key_lt (key x) (key w))) e lt
      | inr later ↦ lt_trans (key x) (key y) (key z) lt (h.0 z later)
    ],
    h,
  )

  -- such a list that has no member but those of another, and is no shorter, is the other
  pub one_list : (xs ys : List X) → InOrder xs → InOrder ys → ((x : X) → Contains xs x → Contains ys x)
      → length ys ≤ length xs → xs ≡ ys
  one_list [] [] p q all le = refl
  one_list [] (y ∷ ys) p q all le = absurd (omega (arith, le))
  one_list (x ∷ xs) [] p q all le = absurd (contains_none x (all x (contains_first x xs)))
  one_list (x ∷ xs) (y ∷ ys) p q all le =
      elim (contains_cases y ys x (all x (contains_first x xs))) [
        | inl e ↦ (let rest = one_list xs ys p.1 q.1 (others e) (omega (arith, le)) in cc (e, rest))
        | inr later ↦ absurd (omega (arith, le, fewer (x ∷ xs) ys (order_once (x ∷ xs) p) (all_later later)))
      ]
    where
      -- the others of both lists
      others : y ≡ x → (z : X) → Contains xs z → Contains ys z
      others e z c =
          elim (contains_cases y ys z (all z (contains_next x xs z c))) [
            | inl same ↦ absurd (lt_itself (key x)
                (subst (λ w. IsTrue (key_lt (key x) (key w))) (sym same ∙ e) (p.0 z c)))
            | inr there ↦ there
          ]

      -- where the first of one list comes later in the other, so does each
      all_later : Contains ys x → (z : X) → Contains (x ∷ xs) z → Contains ys z
      all_later later z c =
          elim (contains_cases x xs z c) [
            | inl e ↦ subst (Contains ys) e later
            | inr rest ↦ elim (contains_cases y ys z (all z c)) [
              | inl same ↦ absurd (lt_back (key x) (key y)
                  (subst (λ w. IsTrue (key_lt (key x) (key w))) (sym same) (p.0 z rest)) (q.0 x later))
              | inr there ↦ there
            ]
          ]

-- things whose keys rise, as the rows of a scan and the locks that are told of
pub rising_in_order : {X : Type 0} (key : X → Key) (xs : List X) → KeysRise key xs → InOrder key xs
rising_in_order key [] h = tt
rising_in_order key (x ∷ []) h = order_one key x
rising_in_order key (x ∷ y ∷ xs) h = order_more key x y xs h.0 (rising_in_order key (y ∷ xs) h.1)
