-- Answers in the order of their lines.
use Rattle.std.proofs.Common.{◌≡◌, ℕ, ◌+◌, ◌<◌, ◌≤◌, List, [], ◌∷◌, ◌++◌, All, map, length, get_or, take, refl, sym, ap, subst, ◌∙◌, append_assoc, arith}
use Rattle.std.specs.Prelude.{Vec}
use Rattle.std.specs.declared.alloc.Global.{Global}
use Rattle.std.specs.List.Sorted.{IsPermutation, IsNonDecreasingBy}
use Rattle.std.proofs.lemmas.List.{map-append, take_more, get_or-map, length-map, append-nil}
use Rattle.std.proofs.lemmas.List.Elements.{All-push}
use Rattle.std.proofs.lemmas.List.Sorted.{IsPermutation-map, All-permutation}
use Rattle.tx_workload.specs.declared.reply.LineReply.{LineReply}
use Rattle.tx_workload.specs.Replies.{all_of}
use Rattle.tx_workload.specs.Texts.{AreInOrder}

pub all_of_push : (parts : List (Vec LineReply Global)) (part : Vec LineReply Global)
    → all_of (parts ++ part ∷ []) ≡ all_of parts ++ part.items
all_of_push [] part = append-nil part.items
all_of_push (first ∷ parts) part =
    ap (λ (t : List LineReply). first.items ++ t) (all_of_push parts part)
    ∙ sym (append_assoc first.items (all_of parts) part.items)

-- one more part
pub all_of_more : (parts : List (Vec LineReply Global)) (i : ℕ) (d : Vec LineReply Global) → i < length parts
    → all_of (take (i + 1) parts) ≡ all_of (take i parts) ++ (get_or parts i d).items
all_of_more parts i d within = ap all_of (take_more parts i d within) ∙ all_of_push (take i parts) (get_or parts i d)

module _ {P : Type 0} (n : P → ℕ) (v : P → LineReply) where
  -- one more answer
  pub entered : (xs : List P) (x : P) (before replies : List LineReply) (i : ℕ) → i < length replies
      → map v xs ≡ before ++ take i replies → v x ≡ get_or replies i (v x)
      → map v (xs ++ x ∷ []) ≡ before ++ take (i + 1) replies
  entered xs x before replies i within is at =
      map-append v xs (x ∷ []) ∙ ap (λ l. l ++ v x ∷ []) is ∙ append_assoc before (take i replies) (v x ∷ [])
      ∙ ap (λ l. before ++ l) (ap (λ y. take i replies ++ y ∷ []) at ∙ sym (take_more replies i (v x) within))

  rising_by : (xs : List P) → All (λ p. n p ≡ (v p).number) xs → IsNonDecreasingBy n xs
      → IsNonDecreasingBy (λ s. s.number) (map v xs)
  rising_by [] are up i j d le lt = absurd (omega (arith, lt))
  rising_by (x ∷ xs) are up i j d le lt =
      let bound : j < length (x ∷ xs) = omega (arith, lt, length-map (x ∷ xs) v) in
      let low : i < length (x ∷ xs) = omega (arith, le, bound) in
      let at_i : get_or (map v (x ∷ xs)) i d ≡ v (get_or (x ∷ xs) i x) = get_or-map v (x ∷ xs) i x d low in
      let at_j : get_or (map v (x ∷ xs)) j d ≡ v (get_or (x ∷ xs) j x) = get_or-map v (x ∷ xs) j x d bound in
      let n_i = are i x low in
      let n_j = are j x bound in
      let a = ap (λ (s : LineReply). s.number) at_i in
      let b = ap (λ (s : LineReply). s.number) at_j in
      omega (arith, up i j x le bound, n_i, n_j, a, b)

  -- what was entered, sorted by the numbers
  pub in_order : (xs ys : List P) (replies : List LineReply) → All (λ p. n p ≡ (v p).number) xs → map v xs ≡ replies
      → IsPermutation xs ys → IsNonDecreasingBy n ys → AreInOrder replies (map v ys)
  in_order xs ys replies are is same up = record {
    same = subst (λ l. IsPermutation l (map v ys)) is (IsPermutation-map v xs ys same);
    rising = rising_by ys (All-permutation (λ p. n p ≡ (v p).number) xs ys same are) up;
  }
