-- Lists in which nothing stands twice.
use Rattle.std.proofs.Common.{◌≢◌, inl, inr, sym, ◌∙◌, subst, List, [], ◌∷◌, ◌++◌, zero, suc, arith}
use Rattle.std.specs.Prelude.{AllPairs, Contains}
use Rattle.std.proofs.lemmas.List.Elements.{Contains-append_cases}
use Rattle.tx_plan.proofs.LockRows.{contains_first, contains_next}
use Rattle.tx_plan.proofs.Collects.{pairs_first}

-- nothing stands twice
abbrev pub Once : {X : Type 0} → List X → Type 0
Once xs = AllPairs (λ a b. a ≢ b) xs

-- so it is of the rest
pub once_rest : {X : Type 0} (x : X) (xs : List X) → Once (x ∷ xs) → Once xs
once_rest x xs pairs i j d lt bound = pairs (suc i) (suc j) d (omega (arith, lt)) (omega (arith, bound))

-- the first does not stand in the rest
pub once_other : {X : Type 0} (x : X) (xs : List X) → Once (x ∷ xs) → (y : X) → Contains xs y → x ≢ y
once_other x xs pairs y c e = pairs zero (suc c.0) y (omega arith) (omega (arith, c.1)) (e ∙ sym c.2)

-- so it is of two lists that have nothing in common
pub once_append : {X : Type 0} (xs ys : List X) → Once xs → Once ys → ((x : X) → Contains xs x → Contains ys x → ⊥)
    → Once (xs ++ ys)
once_append [] ys a b apart = b
once_append (x ∷ xs) ys a b apart =
    pairs_first x (xs ++ ys) (λ y c e. (elim (Contains-append_cases xs ys y c) [
      | inl old ↦ once_other x xs a y old e
      | inr new ↦ apart x (contains_first x xs) (subst (Contains ys) (sym e) new)
    ])) (once_append xs ys (once_rest x xs a) b (λ z c d. apart z (contains_next x xs z c) d))
