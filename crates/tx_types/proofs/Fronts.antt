-- The first eight bytes of a key spell its front, and where the fronts of two keys differ they
-- decide their order.
use Rattle.std.proofs.Common.{◌≡◌, ℕ, suc, zero, ◌+◌, ◌*◌, ◌<◌, ◌≤◌, List, [], ◌∷◌, ◌++◌, get_or, take, replicate, refl, sym, ap, subst, ◌∙◌, arith}
use Rattle.std.specs.Int.{w64, from_be_bytes}
use Rattle.std.specs.Ordering.{nat_cmp, ordering_then, ordering_reverse}
use Rattle.std.specs.declared.cmp.Ordering.TheVariants.{Less, Equal, Greater}
use Rattle.std.specs.Cmp.Lexicographic.{slice_cmp, nat_list_cmp_total}
use Rattle.std.proofs.lemmas.Cmp.{ranked}
use Rattle.tx_types.specs.Fronts.{spelt, front, AreBytes}

zeros_at : (k m i : ℕ) → get_or (take k (replicate {A = ℕ} m 0)) i 0 ≡ 0
zeros_at zero m i = refl
zeros_at (suc k) zero i = refl
zeros_at (suc k) (suc m) zero = refl
zeros_at (suc k) (suc m) (suc i) = zeros_at k m i

group_at : (k m : ℕ) (bytes : List ℕ) (i : ℕ) → i < k → get_or (take k (bytes ++ replicate m 0)) i 0 ≡ get_or bytes i 0
group_at k m [] i lt = zeros_at k m i
group_at zero m (b ∷ bytes) i lt = absurd (omega (arith, lt))
group_at (suc k) m (b ∷ bytes) zero lt = refl
group_at (suc k) m (b ∷ bytes) (suc i) lt = group_at k m bytes i (omega (arith, lt))

pub front_group : (bytes : List ℕ) (group : List ℕ) → group ≡ take 8 (bytes ++ replicate 8 0)
    → from_be_bytes w64 group ≡ front bytes
front_group bytes group is =
    let at : (i : ℕ) → i < 8
    → get_or group i 0 ≡ get_or bytes i 0 = λ i lt. ap (λ (t : List ℕ). get_or t i 0) is
    ∙ group_at 8 8 bytes i lt in
    let a = at 0 (omega arith) in
    let b = at 1 (omega arith) in
    let c = at 2 (omega arith) in
    let d = at 3 (omega arith) in
    let e = at 4 (omega arith) in
    let f = at 5 (omega arith) in
    let g = at 6 (omega arith) in
    let h = at 7 (omega arith) in
    omega (arith, a, b, c, d, e, f, g, h)

-- behind a smaller number bytes spell a smaller one
grows : (n i : ℕ) (x y : List ℕ) (a b : ℕ) → AreBytes x → a < b → spelt n i x a < spelt n i y b
grows zero i x y a b bytes less = less
grows (suc n) i x y a b bytes less =
    grows n (suc i) x y (a * 256 + get_or x i 0) (b * 256 + get_or y i 0) bytes (omega (arith, less, bytes i))

-- no bytes spell the least
least : (n i : ℕ) (y : List ℕ) (a b : ℕ) → a ≤ b → spelt n i [] a ≤ spelt n i y b
least zero i y a b upto = upto
least (suc n) i y a b upto = least n (suc i) y (a * 256 + 0) (b * 256 + get_or y i 0) (omega (arith, upto))

-- the bytes behind the first
shift : (n i b : ℕ) (bs : List ℕ) (a : ℕ) → spelt n (suc i) (b ∷ bs) a ≡ spelt n i bs a
shift zero i b bs a = refl
shift (suc n) i b bs a = shift n (suc i) b bs (a * 256 + get_or bs i 0)

-- bytes that spell less come first
decides : (n : ℕ) (x y : List ℕ) (a : ℕ) → AreBytes y → spelt n 0 x a < spelt n 0 y a → slice_cmp nat_cmp x y ≡ Less
decides zero x y a bytes less = absurd (omega (arith, less))
decides (suc n) [] [] a bytes less = absurd (omega (arith, less))
decides (suc n) [] (y ∷ ys) a bytes less = refl
decides (suc n) (x ∷ xs) [] a bytes less =
    absurd (omega (arith, less, least n 1 (x ∷ xs) (a * 256 + 0) (a * 256 + x) (omega arith)))
decides (suc n) (x ∷ xs) (y ∷ ys) a bytes less =
    elim (nat_cmp x y) as (λ o. nat_cmp x y ≡ o → ordering_then o (slice_cmp nat_cmp xs ys) ≡ Less) [
      | Less ↦ λ e. refl
      | Equal ↦ λ e.
          let same : x ≡ y = ranked x y Equal (sym e) in
          let rest : spelt n 1 (x ∷ xs) (a * 256 + x) < spelt n 1 (y ∷ ys) (a * 256 + x) =
          subst (λ z. spelt n 1 (x ∷ xs) (a * 256 + x) < spelt n 1 (y ∷ ys) (a * 256 + z)) (sym same) less in
          decides n xs ys (a * 256 + x) (λ i. bytes (suc i))
          (omega (arith, rest, shift n 0 x xs (a * 256 + x), shift n 0 y ys (a * 256 + x)))
      | Greater ↦ λ e.
          absurd (omega (
            arith,
            less,
            grows n 1 (y ∷ ys) (x ∷ xs) (a * 256 + y) (a * 256 + x) bytes (omega (arith, ranked x y Greater (sym e))),
          ))
    ] refl

pub less_by_front : (x y : List ℕ) → AreBytes y → front x < front y → slice_cmp nat_cmp x y ≡ Less
less_by_front x y bytes less = decides 8 x y 0 bytes less

pub greater_by_front : (x y : List ℕ) → AreBytes x → front y < front x → slice_cmp nat_cmp x y ≡ Greater
greater_by_front x y bytes less =
    let total = nat_list_cmp_total in
    total.antisymm x y ∙ ap ordering_reverse (less_by_front y x bytes less)
