-- Up to where the keys from one on lie in its region.
use Rattle.std.proofs.Common.{◌≡◌, ◌&&◌, ℕ, ◌+◌, true, false, cond, List, [], ◌∷◌, inl, inr, IsTrue, refl, sym, ap, subst, ◌∙◌}
use Rattle.std.proofs.lemmas.Bool.{cases_Bool, and_parts}
use Rattle.std.proofs.lemmas.List.Sums.{sum_by-cons}
use Rattle.tx_types.specs.declared.key.Key.{Key}
use Rattle.tx_types.specs.Keys.{key_lt, key_le}
use Rattle.tx_plan.proofs.KeyOrder.{ordered, lt_itself, lt_le, le_itself, le_cases, lt_then_le, not_lt}
use Rattle.tx_core.specs.Worlds.{route}
use Rattle.tx_reader.specs.Readers.{AreTogether, part_end}

le_trans : (i j k : Key) → IsTrue (key_le i j) → IsTrue (key_le j k) → IsTrue (key_le i k)
le_trans i j k p q = elim (le_cases i j p) [
  | inl x ↦ lt_le i k (lt_then_le i j k x q)
  | inr e ↦ subst (λ x. IsTrue (key_le x k)) (sym e) q
]

-- what lies above a key is not at or below it
not_below : (j k : Key) → IsTrue (key_lt k j) → key_le j k ≡ false
not_below j k lt = elim (cases_Bool (key_le j k)) [
  | inl e ↦ absurd (lt_itself k (lt_then_le k j k lt e))
  | inr e ↦ e
]

-- what is not at or below a key lies above it
above : (j k : Key) → key_le j k ≡ false → IsTrue (key_lt k j)
above j k other = elim (ordered j k) [
  | inl lt ↦ absurd (let yes : key_le j k ≡ true = lt_le j k lt in cc (yes, other))
  | inr more ↦ elim more [
    | inl same ↦ absurd (let yes : key_le j k ≡ true = subst (λ x. IsTrue (key_le x k)) (sym same) (le_itself k) in
        cc (yes, other))
    | inr lt ↦ lt
  ]
]

-- the end lies at most at the other key
pub part_le : (bs : List Key) (from to : Key) → IsTrue (key_le (part_end bs from to) to)
part_le [] from to = le_itself to
part_le (b ∷ bs) from to = elim (cases_Bool (key_lt from b && key_lt b to)) [
  | inl is ↦ rw is (le_trans (part_end bs from b) b to (part_le bs from b)
      (lt_le b to (and_parts (key_lt from b) (key_lt b to) is).1))
  | inr other ↦ rw other (part_le bs from to)
]

-- and above the first
pub part_above : (bs : List Key) (from to : Key) → IsTrue (key_lt from to) → IsTrue (key_lt from (part_end bs from to))
part_above [] from to lt = lt
part_above (b ∷ bs) from to lt = elim (cases_Bool (key_lt from b && key_lt b to)) [
  | inl is ↦ rw is (part_above bs from b (and_parts (key_lt from b) (key_lt b to) is).0)
  | inr other ↦ rw other (part_above bs from to lt)
]

one_more : (k b : Key) (bs : List Key) → route (b ∷ bs) k ≡ cond (key_le b k) 1 0 + route bs k
one_more k b bs = sum_by-cons (λ bound. cond (key_le bound k) 1 0) b bs

next : (b : Key) (bs : List Key) (from k : Key) → key_le b k ≡ key_le b from → route bs k ≡ route bs from
    → route (b ∷ bs) k ≡ route (b ∷ bs) from
next b bs from k same rest =
    one_more k b bs ∙ ap (λ x. cond x 1 0 + route bs k) same ∙ ap (λ (n : ℕ). cond (key_le b from) 1 0 + n) rest
    ∙ sym (one_more from b bs)

both : (b from k : Key) → IsTrue (key_lt from b) → IsTrue (key_lt k b) → key_le b k ≡ key_le b from
both b from k p q = not_below b k q ∙ sym (not_below b from p)

-- the region of a key before the end is that of the first
same_region : (bs : List Key) (from to k : Key) → IsTrue (key_le from k) → IsTrue (key_lt k (part_end bs from to))
    → route bs k ≡ route bs from
same_region [] from to k le lt = refl
same_region (b ∷ bs) from to k le lt = elim (cases_Bool (key_lt from b && key_lt b to)) [
  | inl is ↦ (let here : IsTrue (key_lt k (part_end bs from b)) = rw is at lt in
      next b bs from k (both b from k (and_parts (key_lt from b) (key_lt b to) is).0
      (lt_then_le k (part_end bs from b) b here (part_le bs from b))) (same_region bs from b k le here))
  | inr other ↦ (let here : IsTrue (key_lt k (part_end bs from to)) = rw other at lt in
      next b bs from k (elim (cases_Bool (key_le b from)) [
        | inl below ↦ (let there : key_le b k ≡ true = le_trans b from k below le in there ∙ sym below)
        | inr past_it ↦ (let up : key_lt from b ≡ true = above b from past_it in
            let past : key_lt b to ≡ false = rw up at other in
            both b from k up (lt_then_le k to b (lt_then_le k (part_end bs from to) to here (part_le bs from to))
            (not_lt b to past)))
      ]) (same_region bs from to k le here))
]

pub together : (bs : List Key) (from to : Key) → AreTogether bs from (part_end bs from to)
together bs from to k inside =
    let ends = and_parts (key_le from k) (key_lt k (part_end bs from to)) inside in
    same_region bs from to k ends.0 ends.1
