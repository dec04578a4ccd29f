-- No key lies above the greatest.
use Rattle.std.proofs.Common.{◌≡◌, ◌<◌, ◌≤◌, ◌&&◌, ◌∙◌, Bool, true, false, Option, Some, None, ℕ, zero, suc, List, [], ◌∷◌, length, replicate, inl, inr, IsTrue, refl, sym, subst, arith}
use Rattle.std.specs.Prelude.{nat_lt}
use Rattle.std.specs.Cmp.Lexicographic.{slice_cmp}
use Rattle.std.specs.Ordering.{nat_cmp, is_le}
use Rattle.std.proofs.lemmas.Bool.{cases_Bool, ltb-false}
use Rattle.tx_types.specs.declared.key.Key.{Key}
use Rattle.tx_types.specs.Fronts.{AreBytes}
use Rattle.tx_types.specs.Keys.{key_le}
use Rattle.tx_types.specs.Lengths.{IsKey}
use Rattle.tx_update.specs.Ranges.{greatest, is_in_range}

-- bytes of so many at most lie at or below as many bytes of 255
at_most : (n : ℕ) (k : List ℕ) → length k ≤ n → AreBytes k → IsTrue (is_le (slice_cmp nat_cmp k (replicate n 255)))
at_most zero [] short bytes = refl
at_most zero (x ∷ xs) short bytes = absurd (omega (arith, short))
at_most (suc n) [] short bytes = refl
at_most (suc n) (x ∷ xs) short bytes = elim (cases_Bool (nat_lt x 255)) [
  | inl less ↦ rw less refl
  | inr not ↦ (let ge : 255 ≤ x = ltb-false x 255 not in
      let byte : x < 256 = bytes 0 in
      let is : x ≡ 255 = omega (arith, ge, byte) in
      subst (λ y. IsTrue (is_le (slice_cmp nat_cmp (y ∷ xs) (replicate (suc n) 255)))) (sym is)
      (at_most n xs (omega (arith, short)) (λ i. bytes (suc i))))
]

pub le_greatest : (k : Key) → IsKey k → AreBytes k → IsTrue (key_le k greatest)
unfolding greatest
le_greatest k is bytes = at_most 512 k is.1 bytes

and_true : (b c : Bool) → c ≡ true → (b && c) ≡ b
and_true true c is = is
and_true false c is = refl

-- a key lies in an open range where it lies at its begin or above
pub in_open_range : (from key : Key) (bs : List ℕ) → bs ≡ key → IsKey bs → AreBytes bs → (to : Option Key) → to ≡ None
    → (b : Bool) → b ≡ key_le from key → b ≡ is_in_range (Some from) to key
in_open_range from key bs same is bytes to none b at =
    let below : IsTrue (key_le key greatest) = subst (λ k. IsTrue (key_le k greatest)) same (le_greatest bs is bytes) in
    subst (λ (t : Option Key). b ≡ is_in_range (Some from) t key) (sym none)
    (at ∙ sym (and_true (key_le from key) (key_le key greatest) below))
