-- The order of bytes of which one has ended.
use Rattle.std.proofs.Common.{◌≡◌, ℕ, ◌-◌, ◌≤◌, List, [], ◌∷◌, length, drop, refl, sym, ap, ◌∙◌, arith, inl, inr, ◌⊎◌}
use Rattle.std.specs.Ordering.{nat_cmp}
use Rattle.std.specs.declared.cmp.Ordering.TheVariants.{Less, Equal, Greater}
use Rattle.std.specs.Cmp.Lexicographic.{slice_cmp}
use Rattle.std.specs.Cmp.{nat_cmp_is}
use Rattle.std.proofs.lemmas.Bool.{cases_order}
use Rattle.std.proofs.lemmas.List.{length-drop}

-- numbers order as what is left of them
shifted : (m n k : ℕ) → k ≤ m → k ≤ n → nat_cmp (m - k) (n - k) ≡ nat_cmp m n
shifted m n k hm hn = elim (cases_order m n) [
  | inl e ↦ sym (nat_cmp_is (m - k) (n - k) Equal (omega (arith, e))) ∙ nat_cmp_is m n Equal e
  | inr (inl l) ↦ sym (nat_cmp_is (m - k) (n - k) Less (omega (arith, l))) ∙ nat_cmp_is m n Less l
  | inr (inr g) ↦ sym (nat_cmp_is (m - k) (n - k) Greater (omega (arith, g))) ∙ nat_cmp_is m n Greater g
]

-- where one has ended the lengths decide
ended : (s t : List ℕ) → (length s ≡ 0) ⊎ (length t ≡ 0) → slice_cmp nat_cmp s t ≡ nat_cmp (length s) (length t)
ended [] [] h = refl
ended [] (y ∷ ys) h = nat_cmp_is 0 (length (y ∷ ys)) Less (omega arith)
ended (x ∷ xs) [] h = nat_cmp_is (length (x ∷ xs)) 0 Greater (omega arith)
ended (x ∷ xs) (y ∷ ys) (inl h) = absurd (omega (arith, h))
ended (x ∷ xs) (y ∷ ys) (inr h) = absurd (omega (arith, h))

-- at the end of one the lengths of both decide
pub lengths_decide : (a b : List ℕ) (at : ℕ) → at ≤ length a
    → at ≤ length b → (length a ≡ at) ⊎ (length b ≡ at)
    → slice_cmp nat_cmp (drop at a) (drop at b) ≡ nat_cmp (length a) (length b)
lengths_decide a b at ha hb one =
    ended (drop at a) (drop at b)
    (elim one [
      | inl e ↦ inl (omega (arith, length-drop at a, e))
      | inr e ↦
          inr (omega (arith, length-drop at b, e))
    ])
    ∙ ap (λ n. nat_cmp n (length (drop at b))) (length-drop at a)
    ∙ ap (nat_cmp (length a - at)) (length-drop at b)
    ∙ shifted (length a) (length b) at ha hb
