-- The order of bytes, eight at a time.
use Rattle.std.proofs.Common.{◌≡◌, ◌≢◌, ℕ, ◌+◌, ◌-◌, ◌≤◌, List, [], ◌∷◌, ◌++◌, length, take, drop, refl, sym, ap, ◌∙◌, arith}
use Rattle.std.specs.Int.{w64, to_be_bytes}
use Rattle.std.specs.Ordering.{nat_cmp, ordering_then}
use Rattle.std.specs.declared.cmp.Ordering.{Ordering}
use Rattle.std.specs.declared.cmp.Ordering.TheVariants.{Less, Equal, Greater}
use Rattle.std.specs.Cmp.Lexicographic.{slice_cmp}
use Rattle.std.specs.Cmp.{nat_cmp_is}
use Rattle.byteorder.specs.Endian.{big_number}
use Rattle.std.proofs.lemmas.List.{get_or-drop, take_rest}
use Rattle.std.proofs.lemmas.Map.Lookups.{exact_unsigned}
use Rattle.tx_codec.proofs.Words.{AreBytes, below_8}
use Rattle.tx_codec.proofs.Numerals.{takes_8}
use Rattle.tx_codec.proofs.Numbers.{words_order}

abbrev pub compare : List ℕ → List ℕ → Ordering
compare = slice_cmp nat_cmp

then_assoc : (a b c : Ordering) → ordering_then a (ordering_then b c) ≡ ordering_then (ordering_then a b) c
then_assoc Less b c = refl
then_assoc Equal b c = refl
then_assoc Greater b c = refl

-- fronts of one length decide first
pub fronts_first : (p q s t : List ℕ) → length p ≡ length q
    → compare (p ++ s) (q ++ t) ≡ ordering_then (compare p q) (compare s t)
fronts_first [] [] s t e = refl
fronts_first [] (y ∷ ys) s t e = absurd (omega (arith, e))
fronts_first (x ∷ xs) [] s t e = absurd (omega (arith, e))
fronts_first (x ∷ xs) (y ∷ ys) s t e =
    ap (ordering_then (nat_cmp x y)) (fronts_first xs ys s t (omega (arith, e)))
    ∙ then_assoc (nat_cmp x y) (compare xs ys) (compare s t)

-- the first eight bytes decide as the numbers that they spell
pub words_first : (x y : List ℕ) → AreBytes x → AreBytes y → 8 ≤ length x
    → 8 ≤ length y → compare x y ≡ ordering_then (nat_cmp (big_number 8 x) (big_number 8 y))
    (compare (drop 8 x) (drop 8 y))
words_first x y hx hy lx ly =
    let m = big_number 8 x in
    let n = big_number 8 y in
    let word : ℕ → List ℕ = to_be_bytes w64 in
    ap (λ (w : List ℕ). compare w y) (takes_8 x hx lx).spelled
    ∙ ap (compare (word m ++ drop 8 x)) (takes_8 y hy ly).spelled
    ∙ fronts_first (word m) (word n) (drop 8 x) (drop 8 y) refl
    ∙ ap (λ (o : Ordering). ordering_then o (compare (drop 8 x) (drop 8 y)))
    (words_order m n (below_8 x hx) (below_8 y hy))

pub tied : (o : Ordering) (p : Ordering) → o ≢ Equal → ordering_then o p ≡ o
tied Less p ne = refl
tied Equal p ne = absurd (ne refl)
tied Greater p ne = refl

pub equals : (n : ℕ) → nat_cmp n n ≡ Equal
equals n = sym (nat_cmp_is n n Equal refl)

-- equal words decide nothing
pub words_equal : (x y : List ℕ) → AreBytes x
    → AreBytes y → 8 ≤ length x → 8 ≤ length y → big_number 8 x ≡ big_number 8 y
    → compare x y ≡ compare (drop 8 x) (drop 8 y)
words_equal x y hx hy lx ly e =
    words_first x y hx hy lx ly
    ∙ ap (λ (o : Ordering). ordering_then o (compare (drop 8 x) (drop 8 y))) (ap (nat_cmp (big_number 8 x)) (sym e)
    ∙ equals (big_number 8 x))

-- others decide
pub words_unequal : (x y : List ℕ) → AreBytes x → AreBytes y
    → 8 ≤ length x → 8 ≤ length y → big_number 8 x ≢ big_number 8 y
    → compare x y ≡ nat_cmp (big_number 8 x) (big_number 8 y)
words_unequal x y hx hy lx ly ne =
    words_first x y hx hy lx ly
    ∙ tied (nat_cmp (big_number 8 x) (big_number 8 y)) (compare (drop 8 x) (drop 8 y))
    (λ e. ne (exact_unsigned (big_number 8 x) (big_number 8 y) e))

pub AreBytes-drop : (n : ℕ) (xs : List ℕ) → AreBytes xs → AreBytes (drop n xs)
AreBytes-drop n xs fits i = rw (get_or-drop n xs i 0) (fits (n + i))

pub rest_is : (xs : List ℕ) → take (length xs - 8) (drop 8 xs) ≡ drop 8 xs
rest_is xs = rw (take_rest) refl
