-- The first of some lines, and one more.
use Rattle.std.proofs.Common.{◌≡◌, ◌<◌, ◌+◌, ℕ, zero, suc, List, [], ◌∷◌, ◌++◌, map, take, drop, get_or, length, Result, Ok, Err, ap, subst, refl, arith}
use Rattle.std.specs.Prelude.{IfOk}

module _ {A B : Type 0} (f : A → B) where
  more : (i : ℕ) → suc (i + 1) ≡ suc i + 1
  more i = omega arith

  pub one_line : (xs : List A) (i : ℕ) (d : A) → i < length xs
      → map f (take (i + 1) xs) ≡ map f (take i xs) ++ f (get_or xs i d) ∷ []
  one_line [] i d within = absurd (omega (arith, within))
  one_line (y ∷ ys) zero d within = refl
  one_line (y ∷ ys) (suc i) d within =
      subst (λ k. map f (take k (y ∷ ys)) ≡ map f (take (suc i) (y ∷ ys)) ++ f (get_or ys i d) ∷ []) (more i)
      (ap (λ l. f y ∷ l) (one_line ys i d (omega (arith, within))))

  pub split_line : (xs : List A) (i : ℕ) (d : A) → i < length xs
      → map f xs ≡ map f (take i xs) ++ f (get_or xs i d) ∷ map f (drop (i + 1) xs)
  split_line [] i d within = absurd (omega (arith, within))
  split_line (y ∷ ys) zero d within = refl
  split_line (y ∷ ys) (suc i) d within =
      subst (λ k. map f (y ∷ ys) ≡ map f (take (suc i) (y ∷ ys)) ++ f (get_or ys i d) ∷ map f (drop k (y ∷ ys)))
      (more i) (ap (λ l. f y ∷ l) (split_line ys i d (omega (arith, within))))

-- what is so of what a call gave
pub if_ok_by : {V E : Type 0} (P Q : V → Type 0) (r : Result V E) → ((v : V) → P v → Q v) → IfOk r P → IfOk r Q
if_ok_by P Q (Ok v) f p = f v p
if_ok_by P Q (Err e) f p = tt
