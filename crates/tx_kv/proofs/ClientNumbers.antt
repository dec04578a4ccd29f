-- The numbers below one, in their order.
use Rattle.std.proofs.Common.{◌≡◌, ◌<◌, inl, inr, ◌∷◌, [], ℕ, zero, suc, All, List, length, get_or, refl, ap, sym, subst, arith, ◌∙◌}
use Rattle.std.proofs.lemmas.Bool.{cases_lt}
use Rattle.std.proofs.lemmas.List.{get_or_append_left, get_or_at, length-append}
use Rattle.tx_kv.specs.Programs.{numbers_below}

pub length_numbers : (n : ℕ) → length (numbers_below n) ≡ n
length_numbers zero = refl
length_numbers (suc n) =
    let so_far = length_numbers n in
    let more = length-append (numbers_below n) (n ∷ []) in
    omega (arith, so_far, more)

pub as_many : (ns : List ℕ) (n : ℕ) → ns ≡ numbers_below n → length ns ≡ n
as_many ns n is = ap length is ∙ length_numbers n

-- each stands at its own place
number_at : (n i d : ℕ) → i < n → get_or (numbers_below n) i d ≡ i
number_at zero i d lt = absurd (omega arith)
number_at (suc n) i d lt = elim (cases_lt i n) [
  | inl below ↦ get_or_append_left (numbers_below n) (n ∷ []) d i
      (subst (λ k. i < k) (sym (length_numbers n)) below) ∙ number_at n i d below
  | inr above ↦ (let same : i ≡ n = omega arith in
      get_or_at (numbers_below n) n [] d i (length_numbers n ∙ sym same) ∙ sym same)
]

pub all_numbers : (n : ℕ) → All (λ k. k < n) (numbers_below n)
all_numbers n i d lt =
    let below : i < n = subst (λ k. i < k) (length_numbers n) lt in
    subst (λ k. k < n) (sym (number_at n i d below)) below
