-- Facts on tests, filters and membership.
use Rattle.std.proofs.Common.{◌≡◌, ℕ, Bool, true, false, cond, not, ◌||◌, ◌&&◌, eqb, List, [], ◌∷◌, ◌++◌, refl, sym, ap, ◌∙◌, arith}
use Rattle.std.specs.List.{list_any, filter}
use Rattle.std.proofs.lemmas.Bool.Decides.{nat_tests}
use Rattle.std.proofs.lemmas.Bool.{eq-eqb}
use Rattle.std.proofs.lemmas.List.Folds.{list_any-append}
use Rattle.std.proofs.lemmas.List.Elements.{filter_agree}
use Rattle.tx_latch.specs.Asked.{contains, meets}

pub or_swap : (a b c d : Bool) → ((a || b) || (c || d)) ≡ ((a || c) || (b || d))
or_swap true b c d = refl
or_swap false true true d = refl
or_swap false true false d = refl
or_swap false false c d = refl

-- two tests joined by `or`
pub any_or : {X : Type 0} (p q : X → Bool) (xs : List X)
    → list_any (λ x. p x || q x) xs ≡ (list_any p xs || list_any q xs)
any_or p q [] = refl
any_or p q (x ∷ xs) = let e : list_any (λ x. p x || q x) xs ≡ (list_any p xs || list_any q xs) = any_or p q xs in
    rw e (or_swap (p x) (q x) (list_any p xs) (list_any q xs))

-- no element passes
pub any_none : {X : Type 0} (xs : List X) → list_any (λ x. false) xs ≡ false
any_none [] = refl
any_none (x ∷ xs) = any_none xs

-- two tests that agree find the same
pub any_agree : {X : Type 0} (p q : X → Bool) → ((x : X) → p x ≡ q x) → (xs : List X) → list_any p xs ≡ list_any q xs
any_agree p q h [] = refl
any_agree p q h (x ∷ xs) = rw (h x, any_agree p q h xs) refl

pub same_eqb : (x y : ℕ) → eqb x y ≡ eqb y x
same_eqb x y = grind (arith, nat_tests)

-- to share a slot is mutual
pub meets_mutual : (xs ys : List ℕ) → meets xs ys ≡ meets ys xs
meets_mutual [] ys = sym (any_none ys)
meets_mutual (x ∷ xs) ys =
    let e : meets xs ys ≡ meets ys xs = meets_mutual xs ys in
    let f : list_any (λ s. eqb s x) ys ≡ contains x ys =
    any_agree (λ s. eqb s x) (λ y. eqb x y) (λ s. same_eqb s x) ys in
    rw e (sym (any_or (λ s. eqb s x) (λ s. contains s xs) ys ∙ rw f refl))

filter_and_step : {X : Type 0} (p q : X → Bool) (x : X) (xs : List X) (b : Bool) → q x ≡ b
    → filter p (filter q xs) ≡ filter (λ x. p x && q x) xs
    → filter p (cond b (x ∷ filter q xs) (filter q xs))
    ≡ cond (p x && b) (x ∷ filter (λ x. p x && q x) xs) (filter (λ x. p x && q x) xs)
filter_and_step p q x xs true h e =
    elim (p x) as (λ b. cond b (x ∷ filter p (filter q xs)) (filter p (filter q xs))
    ≡ cond (b && true) (x ∷ filter (λ x. p x && q x) xs) (filter (λ x. p x && q x) xs)) [
      | true ↦ ap (λ t. x ∷ t) e
      | false ↦ e
    ]
filter_and_step p q x xs false h e =
    elim (p x) as (λ b. filter p (filter q xs)
    ≡ cond (b && false) (x ∷ filter (λ x. p x && q x) xs) (filter (λ x. p x && q x) xs)) [ true ↦ e | false ↦ e ]

-- filters
pub filter_and : {X : Type 0} (p q : X → Bool) (xs : List X) → filter p (filter q xs) ≡ filter (λ x. p x && q x) xs
filter_and p q [] = refl
filter_and p q (x ∷ xs) =
    let e : filter p (filter q xs) ≡ filter (λ x. p x && q x) xs = filter_and p q xs in
    filter_and_step p q x xs (q x) refl e

pub not_or : (a b : Bool) → (not a && not b) ≡ not (a || b)
not_or true b = refl
not_or false b = refl

-- what holds of each element, by recursion
abbrev pub Each : {X : Type 0} → (X → Type 0) → List X → Type 0
Each P [] = Unit {0}
Each P (x ∷ xs) = P x × Each P xs

pub filter_agree_each : {X : Type 0} (p q : X → Bool) (xs : List X) → Each (λ x. p x ≡ q x) xs
    → filter p xs ≡ filter q xs
filter_agree_each p q [] h = refl
filter_agree_each p q (x ∷ xs) h =
    rw (h.0, filter_agree_each p q xs h.1) refl

pub or_false : (a : Bool) → (a || false) ≡ a
or_false true = refl
or_false false = refl

pub or_none : (a b : Bool) → (a || b) ≡ false → (a ≡ false) × (b ≡ false)
or_none true b h = absurd (cc)
or_none false b h = (refl, h)

pub eqb_self : (x : ℕ) → eqb x x ≡ true
eqb_self x = eq-eqb x x refl

pub contains-append : (x : ℕ) (xs ys : List ℕ) → contains x (xs ++ ys) ≡ (contains x xs || contains x ys)
contains-append x xs ys = list_any-append (λ y. eqb x y) xs ys

pub Each_map : {X : Type 0} (P Q : X → Type 0) → ((x : X) → P x → Q x) → (xs : List X) → Each P xs → Each Q xs
Each_map P Q f [] h = tt
Each_map P Q f (x ∷ xs) h = (f x h.0, Each_map P Q f xs h.1)

pub Each_both : {X : Type 0} (P Q R : X → Type 0) → ((x : X) → P x → Q x → R x) → (xs : List X) → Each P xs → Each Q xs
    → Each R xs
Each_both P Q R f [] h k = tt
Each_both P Q R f (x ∷ xs) h k = (f x h.0 k.0, Each_both P Q R f xs h.1 k.1)

pub and_swap : (a b : Bool) → (a && b) ≡ (b && a)
and_swap true true = refl
and_swap true false = refl
and_swap false true = refl
and_swap false false = refl

pub filter_swap : {X : Type 0} (p q : X → Bool) (xs : List X) → filter p (filter q xs) ≡ filter q (filter p xs)
filter_swap p q xs = filter_and p q xs ∙ filter_agree (λ x. p x && q x) (λ x. q x && p x) (λ x. and_swap (p x) (q x)) xs
    ∙ sym (filter_and q p xs)

pub not_not : (a : Bool) → not (not a) ≡ a
not_not true = refl
not_not false = refl
