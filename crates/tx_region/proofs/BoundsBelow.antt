-- How many of the keys between the regions lie at a key or below it.
use Rattle.std.proofs.Common.{◌≡◌, ℕ, ◌+◌, ◌<◌, ◌≤◌, zero, suc, Bool, true, false, ◌&&◌, List, [], ◌∷◌, length, cond, get_or, inl, inr, refl, sym, ap, subst, ◌∙◌, arith}
use Rattle.std.specs.Prelude.{IsTrue, count_by}
use Rattle.std.specs.List.Sorted.{IsPartitionedBy, IsPartitionPoint}
use Rattle.std.proofs.lemmas.Bool.{cases_Bool}
use Rattle.std.proofs.lemmas.List.Sums.{count_by-le-length, sum_by-cons}
use Rattle.tx_types.specs.declared.key.Key.{Key}
use Rattle.tx_types.specs.Keys.{key_lt, key_le, AreRising}
use Rattle.tx_plan.specs.declared.body.Body.{Body}
use Rattle.tx_plan.specs.declared.body.Scan.{Scan}
use Rattle.tx_plan.specs.declared.target.Target.{Target}
use Rattle.tx_plan.specs.declared.target.Target.TheVariants.{Range}
use Rattle.tx_plan.specs.Reads.{in_range}
use Rattle.tx_plan.specs.Targets.{target, by_parts}
use Rattle.tx_plan.proofs.KeyOrder.{ordered, le_lt, lt_trans, lt_itself, lt_le, le_itself, le_cases, lt_then_le}
use Rattle.tx_core.specs.Worlds.{route, Has, Holds}

and_true : (p q : Bool) → IsTrue p → IsTrue q → IsTrue (p && q)
and_true p q a b = rw (a, b) refl

and_both : (p q : Bool) → IsTrue (p && q) → IsTrue p × IsTrue q
and_both true q h = (refl, h)
and_both false q h = absurd (cc (h))

-- what does not lie at a key or below it comes after it
pub above_lt : (j k : Key) → key_le j k ≡ false → IsTrue (key_lt k j)
above_lt j k e = elim (ordered j k) [
  | inl x ↦
      absurd (cc (lt_le j k x, e))
  | inr y ↦
      elim y [ inl same ↦ absurd (cc (subst (λ i. IsTrue (key_le j i)) same (le_itself j), e)) | inr x ↦ x ]
]

pub not_le : (j k : Key) → key_le j k ≡ false → IsTrue (key_le k j)
not_le j k e = lt_le k j (above_lt j k e)

pub le_trans : (i j k : Key) → IsTrue (key_le i j) → IsTrue (key_le j k) → IsTrue (key_le i k)
le_trans i j k p q =
    elim (le_cases i j p) [
      | inl x ↦ elim (le_cases j k q) [
        | inl y ↦ lt_le i k (lt_trans i j k x y)
        | inr e ↦
            subst (λ z. IsTrue (key_le i z)) e p
      ]
      | inr e ↦ subst (λ z. IsTrue (key_le z k)) (sym e) q
    ]

-- ---- rising keys

tail_rises : (j : Key) (ks : List Key) → AreRising (j ∷ ks) → AreRising ks
tail_rises j [] r = tt
tail_rises j (k ∷ ks) r = r.1

-- the first is at most each
first_least : (j : Key) (ks : List Key) → AreRising (j ∷ ks) → (n : ℕ) (d : Key) → n < length (j ∷ ks)
    → IsTrue (key_le j (get_or (j ∷ ks) n d))
first_least j ks r zero d in_range = le_itself j
first_least j [] r (suc n) d in_range = absurd (omega arith)
first_least j (k ∷ ks) r (suc n) d in_range = le_trans j k _ (lt_le j k r.0) (first_least k ks r.1 n d (omega arith))

-- each is at most those after it
pub rise : (ks : List Key) → AreRising ks → (m n : ℕ) (d : Key) → m ≤ n → n < length ks
    → IsTrue (key_le (get_or ks m d) (get_or ks n d))
rise [] r m n d upto in_range = absurd (omega arith)
rise (j ∷ ks) r zero n d upto in_range = first_least j ks r n d in_range
rise (j ∷ ks) r (suc m) zero d upto in_range = absurd (omega arith)
rise (j ∷ ks) r (suc m) (suc n) d upto in_range = rise ks (tail_rises j ks r) m n d (omega arith) (omega arith)

-- those at a key or below it come first
pub parted : (ks : List Key) → AreRising ks → (k : Key) → IsPartitionedBy (λ b. key_le b k) ks
parted ks r k i j d upto in_range below = le_trans _ _ k (rise ks r i j d upto in_range) below

-- ---- counting

counted : {X : Type 0} (p : X → Bool) (x : X) (xs : List X) (b : Bool) → p x ≡ b
    → count_by p (x ∷ xs) ≡ cond b 1 0 + count_by p xs
counted p x xs b is = sum_by-cons (λ y. cond (p y) 1 0) x xs ∙ ap (λ c. cond c 1 0 + count_by p xs) is

-- so many pass as come before the point
pub count_at : {X : Type 0} (p : X → Bool) (xs : List X) (i : ℕ) → i ≤ length xs
    → IsPartitionPoint (λ y. p y ≡ true) (λ y. p y ≡ false) xs i → count_by p xs ≡ i
count_at p [] i upto at = omega arith
count_at p (x ∷ xs) zero upto at =
    let rest = count_at p xs zero
    (omega arith) (
      (λ k d low high. absurd (omega arith)),
      λ k d low high. at.1 (suc k) d (omega arith)
          (omega arith),
    ) in
    counted p x xs false (at.1 0 x (omega arith) (omega arith)) ∙ omega (arith, rest)
count_at p (x ∷ xs) (suc i) upto at =
    let rest = count_at p xs i (omega arith) (
      (λ k d low high. at.0 (suc k) d (omega arith) (omega arith)),
      λ k d low high. at.1 (suc k) d (omega arith)
          (omega arith),
    ) in
    counted p x xs true (at.0 0 x (omega arith) (omega arith)) ∙ omega (arith, rest)

-- where the first lies above a key, each does
all_above : (j : Key) (ks : List Key) → AreRising (j ∷ ks) → (k : Key) → key_le j k ≡ false → (i : ℕ) (d : Key)
    → i < length (j ∷ ks) → key_le (get_or (j ∷ ks) i d) k ≡ false
all_above j ks r k e i d in_range =
    elim (cases_Bool (key_le (get_or (j ∷ ks) i d) k)) [
      | inl t ↦ absurd (cc (e, le_trans j _ k (first_least j ks r i d in_range) t))
      | inr f ↦ f
    ]

-- one more key that lies at a key or below it
one_more : (j : Key) (ks : List Key) (k : Key) (n : ℕ) → key_le j k ≡ true
    → IsPartitionPoint (λ b. key_le b k ≡ true) (λ b. key_le b k ≡ false) ks n
    → IsPartitionPoint (λ b. key_le b k ≡ true) (λ b. key_le b k ≡ false) (j ∷ ks) (suc n)
one_more j ks k n t at = (below, above)
  where
    below : (i : ℕ) (d : Key) → 0 ≤ i → i < suc n → key_le (get_or (j ∷ ks) i d) k ≡ true
    below zero d low high = t
    below (suc i) d low high = at.0 i d (omega arith) (omega arith)

    above : (i : ℕ) (d : Key) → suc n ≤ i → i < length (j ∷ ks) → key_le (get_or (j ∷ ks) i d) k ≡ false
    above zero d low high = absurd (omega arith)
    above (suc i) d low high = at.1 i d (omega arith) (omega arith)

-- the keys before the index that route gives lie at the key or below it, and the others above
pub route_point : (ks : List Key)
    → AreRising ks → (k : Key) → (n : ℕ) → route ks k ≡ n
    → IsPartitionPoint (λ b. key_le b k ≡ true) (λ b. key_le b k ≡ false) ks n
route_point [] r k n is = ((λ i d low high. absurd (omega arith)), λ i d low high. absurd (omega arith))
route_point (j ∷ ks) r k n is =
    elim (cases_Bool (key_le j k)) [
      | inl t ↦
          let more : n ≡ suc (route ks k) = sym is ∙ (counted (λ b. key_le b k) j ks true t ∙ omega arith) in
          subst (λ m. IsPartitionPoint (λ b. key_le b k ≡ true) (λ b. key_le b k ≡ false)
          (j ∷ ks) m) (sym more) (one_more j ks k (route ks k) t
          (route_point ks (tail_rises j ks r) k (route ks k) refl))
      | inr f ↦
          let none : n ≡ 0 = sym is ∙ count_at (λ b. key_le b k)
          (j ∷ ks) zero (omega arith)
          ((λ i d low high. absurd (omega arith)), λ i d low high. all_above j ks r k f i d high) in
          ((λ i d low high. absurd (omega arith)), λ i d low high. all_above j ks r k f i d high)
    ]

-- ---- ranges

inside_both : (b : Scan) (k : Key) → IsTrue (in_range b k) → IsTrue (key_le b.from k) × IsTrue (key_lt k b.to)
inside_both b k inside = and_both (key_le b.from k) (key_lt k b.to) inside

-- the first key of a range that has one
pub from_inside : (b : Scan) → IsTrue (key_lt b.from b.to) → IsTrue (in_range b b.from)
from_inside b some = and_true (key_le b.from b.from) (key_lt b.from b.to) (le_itself b.from) some

-- where a region holds a range, so does the region of its first key
holds_first : (ks : List Key) (b : Scan) (n : ℕ)
    → ((k : Key) → IsTrue (in_range b k) → route ks k ≡ n) → (k : Key) → IsTrue (in_range b k)
    → route ks k ≡ route ks b.from
holds_first ks b n all k inside =
    let x = inside_both b k inside in
    all k inside ∙ sym (all b.from (from_inside b (le_lt b.from k b.to x.0 x.1)))

-- a range that some region holds is held by the region of its first key
pub range_held : {A B : Type 0} (key : A → Key) (scan : B → Scan) (t : Target A B) (x : B) (ks : List Key) (body : Body)
    (n m : ℕ)
    → by_parts key scan t ≡ target body → t ≡ Range x → Holds ks n body → m ≡ route ks (scan x).from → Holds ks m body
range_held key scan t x ks body n m is range held at =
    let of : target body ≡ Range (scan x) = sym is ∙ ap (by_parts key scan) range in
    subst (Has ks m) (sym of) (λ k inside. holds_first ks (scan x) n (subst (Has ks n) of held) k inside ∙ sym at)

module _ (ks : List Key) (r : AreRising ks) (b : Scan) (n : ℕ) where
  pub empty_range : IsTrue (key_le b.to b.from) → (k : Key) → IsTrue (in_range b k) → ⊥
  empty_range empty k inside =
      lt_itself k (lt_then_le k b.to k (inside_both b k inside).1
      (le_trans b.to b.from k empty (inside_both b k inside).0))

  -- no region begins inside the range
  pub range_within : route ks b.from ≡ n
      → ((d : Key) → n < length ks → IsTrue (key_le b.to (get_or ks n d))) → (k : Key) → IsTrue (in_range b k)
      → route ks k ≡ n
  range_within first next k inside =
      count_at (λ j. key_le j k) ks n
      (subst (λ m. m ≤ length ks) first (count_by-le-length (λ j. key_le j b.from) ks)) (
        (λ i d low high. le_trans _ b.from k ((route_point ks r b.from n first).0 i d low high)
            (inside_both b k inside).0),
        λ i d low high. above i d low high,
      )
    where
      above : (i : ℕ) (d : Key) → n ≤ i → i < length ks → key_le (get_or ks i d) k ≡ false
      above i d low high =
          elim (cases_Bool (key_le (get_or ks i d) k)) [
            | inl t ↦ absurd (lt_itself k (lt_then_le k b.to k (inside_both b k inside).1
                (le_trans b.to (get_or ks n d) k (next d (omega arith)) (le_trans _ _ k (rise ks r n i d low high) t))))
            | inr f ↦ f
          ]

  -- a region begins inside it
  pub range_across : route ks b.from ≡ n → (next : Key)
      → next ≡ get_or ks n next → n < length ks → IsTrue (key_lt next b.to)
      → ((k : Key) → IsTrue (in_range b k) → route ks k ≡ n) → ⊥
  range_across first next at some before all =
      let above : key_le next b.from ≡ false =
      subst (λ x. key_le x b.from ≡ false) (sym at)
      ((route_point ks r b.from n first).1 n next (omega arith) some) in
      let inside : IsTrue (in_range b next) =
      and_true (key_le b.from next) (key_lt next b.to) (not_le next b.from above) before in
      let beyond : key_le next next ≡ false =
      subst (λ x. key_le x next ≡ false) (sym at)
      ((route_point ks r next n (all next inside)).1 n next (omega arith) some) in
      absurd (cc (beyond, le_itself next))
