-- Some elements of a list, in their order.
use Rattle.std.proofs.Common.{◌≡◌, inl, inr, ℕ, ◌+◌, ◌<◌, List, [], ◌∷◌, ◌++◌, length, get_or, take, refl, sym, subst, ◌∙◌, ap}
use Rattle.std.specs.Prelude.{◌⊎◌}
use Rattle.std.specs.List.{flat_map}
use Rattle.std.proofs.lemmas.List.{flat_map_more, take_more}
use Rattle.tx_run.specs.Jobs.{IsSubsequence}

module _ {X : Type 0} where
  -- a list has its own elements
  own : (xs : List X) → IsSubsequence xs xs
  own [] = tt
  own (x ∷ xs) = inl (refl, own xs)

  -- the second list may have more in front
  behind : (xs front ys : List X) → IsSubsequence xs ys → IsSubsequence xs (front ++ ys)
  behind [] front ys is = tt
  behind (x ∷ xs) [] ys is = is
  behind (x ∷ xs) (f ∷ front) ys is = inr (behind (x ∷ xs) front ys is)

  -- the second list has more
  pub left_out : (xs ys more : List X) → IsSubsequence xs ys → IsSubsequence xs (ys ++ more)
  left_out [] ys more is = tt
  left_out (x ∷ xs) [] more is = absurd is
  left_out (x ∷ xs) (y ∷ ys) more (inl (same, is)) = inl (same, left_out xs ys more is)
  left_out (x ∷ xs) (y ∷ ys) more (inr is) = inr (left_out (x ∷ xs) ys more is)

  -- both have these more
  pub added : (xs ys more : List X) → IsSubsequence xs ys → IsSubsequence (xs ++ more) (ys ++ more)
  added [] ys more is = behind more ys more (own more)
  added (x ∷ xs) [] more is = absurd is
  added (x ∷ xs) (y ∷ ys) more (inl (same, is)) = inl (same, added xs ys more is)
  added (x ∷ xs) (y ∷ ys) more (inr is) = inr (added (x ∷ xs) ys more is)

-- one more is looked at: what it tells is added, or left out
pub looked_at : {O X : Type 0} (f : O → List X) (os : List O) (i : ℕ) (o : O) (old new : List X) → i < length os
    → o ≡ get_or os i o → IsSubsequence old (flat_map f (take i os)) → (new ≡ old) ⊎ (new ≡ old ++ f o)
    → IsSubsequence new (flat_map f (take (i + 1) os))
looked_at {O} {X} f os i o old new within at is adds =
    let all : flat_map f (take (i + 1) os) ≡ flat_map f (take i os) ++ f o =
    ap (flat_map f) (take_more os i o within ∙ ap (λ (x : O). take i os ++ x ∷ []) (sym at))
    ∙ sym (flat_map_more f [] (take i os) o) in
    subst (IsSubsequence new) (sym all) (by adds)
  where
    by : (new ≡ old) ⊎ (new ≡ old ++ f o) → IsSubsequence new (flat_map f (take i os) ++ f o)
    by (inl same) = subst (λ (l : List X). IsSubsequence l (flat_map f (take i os) ++ f o)) (sym same)
        (left_out old (flat_map f (take i os)) (f o) is)
    by (inr same) = subst (λ (l : List X). IsSubsequence l (flat_map f (take i os) ++ f o)) (sym same)
        (added old (flat_map f (take i os)) (f o) is)
