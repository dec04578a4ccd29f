-- The order of numbers is that of their bytes, the highest first.
use Rattle.std.proofs.Common.{◌≡◌, ℕ, zero, suc, ◌+◌, ◌-◌, ◌*◌, ◌/◌, ◌%◌, ◌^◌, ◌<◌, ◌≤◌, refl, sym, ap, ◌∙◌, arith}
use Rattle.std.specs.Ordering.{MatchOrdering, nat_cmp, ordering_then}
use Rattle.std.specs.declared.cmp.Ordering.{Ordering}
use Rattle.std.specs.declared.cmp.Ordering.TheVariants.{Less, Equal, Greater}
use Rattle.std.specs.Cmp.{nat_cmp_is}
use Rattle.std.specs.Cmp.Lexicographic.{slice_cmp}
use Rattle.std.specs.Int.{w64, byte_at, bytes_high_first, to_be_bytes}
use Rattle.std.proofs.Math.Nat.{add-mul, mul-le-mul_right, one-le-pow, pow-succ', div-one, mod-lt, mod-eq_of_lt}
use Rattle.std.proofs.Math.Arith.{mod-mul}
use Rattle.std.proofs.lemmas.Cmp.{ranked}

-- a number of two digits orders by the first, then by the second
two_digits : (q p r s m : ℕ) (high low : Ordering) → r < m → s < m → MatchOrdering high (q < p) (q ≡ p) (p < q)
    → MatchOrdering low (r < s) (r ≡ s) (s < r)
    → MatchOrdering (ordering_then high low) (q * m + r < p * m + s) (q * m + r ≡ p * m + s) (p * m + s < q * m + r)
two_digits q p r s m Less low hr hs h l =
    let step : (q + 1) * m ≤ p * m = mul-le-mul_right m (omega arith) in
    omega (arith, add-mul q 1 m)
two_digits q p r s m Greater low hr hs h l =
    let step : (p + 1) * m ≤ q * m = mul-le-mul_right m (omega arith) in
    omega (arith, add-mul p 1 m)
two_digits q p r s m Equal Less hr hs h l = omega (arith, ap (λ (x : ℕ). x * m) h)
two_digits q p r s m Equal Equal hr hs h l = omega (arith, ap (λ (x : ℕ). x * m) h)
two_digits q p r s m Equal Greater hr hs h l = omega (arith, ap (λ (x : ℕ). x * m) h)

byte_is : (k x : ℕ) → byte_at k x ≡ x / 256 ^ k % 256
byte_is zero x = ap (λ (y : ℕ). y % 256) (sym (div-one x))
byte_is (suc k) x = refl

-- the lowest k bytes of two numbers
low_bytes : (k x y : ℕ) → slice_cmp nat_cmp (bytes_high_first k x) (bytes_high_first k y) ≡ nat_cmp (x % 256 ^ k)
    (y % 256 ^ k)
low_bytes zero x y = nat_cmp_is (x % 1) (y % 1) Equal (omega arith)
low_bytes (suc k) x y =
    let m = 256 ^ k in
    let above : 0 < m = one-le-pow k 256 (omega arith) in
    let split : (n : ℕ) → n % 256 ^ suc k ≡ (n / m % 256) * m + n % m = λ n. ap (λ (p : ℕ). n % p) (pow-succ' 256 k)
    ∙ mod-mul n {m = 256} {c = m} (omega arith) above in
    let high = nat_cmp (x / m % 256) (y / m % 256) in
    let low = nat_cmp (x % m) (y % m) in
    let digits = two_digits (x / m % 256) (y / m % 256) (x % m) (y % m) m high low
    (mod-lt x above) (mod-lt y above) (ranked (x / m % 256) (y / m % 256) high refl)
    (ranked (x % m) (y % m) low refl) in
    rw (
      byte_is k x,
      byte_is k y,
      low_bytes k x y,
      split x,
      split y,
    ) (nat_cmp_is (x / m % 256 * m + x % m) (y / m % 256 * m + y % m)
    (ordering_then high low) digits)

-- numbers of 8 bytes
pub words_order : (x y : ℕ) → x < 2 ^ 64 → y < 2 ^ 64
    → slice_cmp nat_cmp (to_be_bytes w64 x) (to_be_bytes w64 y) ≡ nat_cmp x y
words_order x y hx hy =
    let x-is : x % 256 ^ 8 ≡ x = mod-eq_of_lt hx in
    let y-is : y % 256 ^ 8 ≡ y = mod-eq_of_lt hy in
    low_bytes 8 x y ∙ ap (λ (n : ℕ). nat_cmp n (y % 256 ^ 8)) x-is ∙ ap (nat_cmp x) y-is

turned : (s t : ℕ) (o : Ordering) → s < 2 ^ 64 → t < 2 ^ 64 → MatchOrdering o (t < s) (t ≡ s) (s < t)
    → MatchOrdering o (2 ^ 64 - 1 - s < 2 ^ 64 - 1 - t) (2 ^ 64 - 1 - s ≡ 2 ^ 64 - 1 - t)
    (2 ^ 64 - 1 - t < 2 ^ 64 - 1 - s)
turned s t Less hs ht h = omega arith
turned s t Equal hs ht h = omega arith
turned s t Greater hs ht h = omega arith

-- complements order the other way
pub complements_order : (s t : ℕ) → s < 2 ^ 64 → t < 2 ^ 64 → nat_cmp (2 ^ 64 - 1 - s) (2 ^ 64 - 1 - t) ≡ nat_cmp t s
complements_order s t hs ht =
    sym (nat_cmp_is (2 ^ 64 - 1 - s) (2 ^ 64 - 1 - t) (nat_cmp t s)
    (turned s t (nat_cmp t s) hs ht (ranked t s (nat_cmp t s) refl)))
