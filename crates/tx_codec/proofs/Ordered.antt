-- Encoded keys, a byte at a time, and their order.
use Rattle.std.proofs.Common.{◌≡◌, ℕ, zero, suc, ◌-◌, ◌^◌, ◌<◌, ◌≤◌, List, [], ◌∷◌, ◌++◌, replicate, refl, sym, ap, ◌∙◌, arith}
use Rattle.std.specs.Ordering.{nat_cmp, ordering_then, ordering_reverse}
use Rattle.std.specs.declared.cmp.Ordering.{Ordering}
use Rattle.std.specs.declared.cmp.Ordering.TheVariants.{Less, Equal, Greater}
use Rattle.std.specs.Cmp.{nat_cmp_is}
use Rattle.std.specs.Cmp.Lexicographic.{slice_cmp}
use Rattle.std.proofs.lemmas.Cmp.{tied_itself, nat_cmp_total, nat_list_cmp_total}
use Rattle.std.proofs.lemmas.List.{append-nil}
use Rattle.tx_codec.specs.Keys.{encoded_key, encoded_version, encoded_timestamp, KeysKeepOrder, VersionsKeepOrder}
use Rattle.tx_codec.proofs.Numbers.{words_order, complements_order}

abbrev compare : List ℕ → List ℕ → Ordering
compare = slice_cmp nat_cmp

-- zeros and a marker
abbrev pads : ℕ → ℕ → List ℕ
pads n marker = replicate n 0 ++ marker ∷ []

-- what ends an encoded key whose last group has room for n bytes: where that is none, the group is
-- whole, and one of pads follows it
abbrev ending : ℕ → List ℕ
ending zero = 255 ∷ pads 8 247
ending (suc n) = pads (suc n) (255 - suc n)

-- the encoded key from a place on where the group has room for n bytes
abbrev tail_from : ℕ → List ℕ → List ℕ
tail_from n [] = ending n
tail_from zero (x ∷ xs) = 255 ∷ x ∷ tail_from 7 xs
tail_from (suc n) (x ∷ xs) = x ∷ tail_from n xs

next_group : (rest : List ℕ) → tail_from 0 rest ≡ 255 ∷ tail_from 8 rest
next_group [] = refl
next_group (x ∷ xs) = refl

encoded_key-tail : (key : List ℕ) → encoded_key key ≡ tail_from 8 key
unfolding encoded_key
encoded_key-tail (a ∷ b ∷ c ∷ d ∷ e ∷ f ∷ g ∷ h ∷ rest) =
    ap (λ (w : List ℕ). a ∷ b ∷ c ∷ d ∷ e ∷ f ∷ g ∷ h ∷ w) (ap (λ (w : List ℕ). 255 ∷ w) (encoded_key-tail rest)
    ∙ sym (next_group rest))
encoded_key-tail part = refl

same_front : (p x y : List ℕ) → compare (p ++ x) (p ++ y) ≡ compare x y
same_front [] x y = refl
same_front (z ∷ p) x y = rw (tied_itself nat_cmp_total z) (same_front p x y)

below : (x y : ℕ) → x < y → nat_cmp x y ≡ Less
below x y lt = sym (nat_cmp_is x y Less lt)

pads_below : (n m k : ℕ) (s t : List ℕ) → m < k → compare (pads n m ++ s) (pads n k ++ t) ≡ Less
pads_below zero m k s t lt = rw (below m k lt) refl
pads_below (suc n) m k s t lt = pads_below n m k s t lt

-- pads with a marker below that of the group
tail_above : (n m : ℕ) (key s t : List ℕ) → n ≤ 8 → m < 255 - n → compare (pads n m ++ s) (tail_from n key ++ t) ≡ Less
tail_above zero m [] s t le lt = rw (below m 255 (omega arith)) refl
tail_above zero m (y ∷ ys) s t le lt = rw (below m 255 (omega arith)) refl
tail_above (suc n) m [] s t le lt = pads_below (suc n) m (255 - suc n) s t lt
tail_above (suc n) m (zero ∷ ys) s t le lt = tail_above n m ys s t (omega arith) (omega arith)
tail_above (suc n) m (suc y ∷ ys) s t le lt = rw (below 0 (suc y) (omega arith)) refl

-- a key that ends before another goes on
ends_first : (n y : ℕ) (ys s t : List ℕ) → n ≤ 7
    → compare (pads (suc n) (255 - suc n) ++ s) (y ∷ (tail_from n ys ++ t)) ≡ Less
ends_first n zero ys s t le = tail_above n (255 - suc n) ys s t (omega arith) (omega arith)
ends_first n (suc y) ys s t le = rw (below 0 (suc y) (omega arith)) refl

shorter : (n y : ℕ) (ys s t : List ℕ) → n ≤ 8 → compare (tail_from n [] ++ s) (tail_from n (y ∷ ys) ++ t) ≡ Less
shorter zero y ys s t le = ends_first 7 y ys s t (omega arith)
shorter (suc n) y ys s t le = ends_first n y ys s t (omega arith)

then_assoc : (a b c : Ordering) → ordering_then a (ordering_then b c) ≡ ordering_then (ordering_then a b) c
then_assoc Less b c = refl
then_assoc Equal b c = refl
then_assoc Greater b c = refl

tails_order : (n : ℕ) (a b s t : List ℕ) → n ≤ 8
    → compare (tail_from n a ++ s) (tail_from n b ++ t) ≡ ordering_then (compare a b) (compare s t)
tails_order n [] [] s t le = same_front (ending n) s t
tails_order n [] (y ∷ ys) s t le = shorter n y ys s t le
tails_order n (x ∷ xs) [] s t le =
    nat_list_cmp_total.antisymm (tail_from n (x ∷ xs) ++ s) (tail_from n [] ++ t)
    ∙ ap ordering_reverse (shorter n x xs t s le)
tails_order zero (x ∷ xs) (y ∷ ys) s t le =
    ap (ordering_then (nat_cmp x y)) (tails_order 7 xs ys s t (omega arith))
    ∙ then_assoc (nat_cmp x y) (compare xs ys) (compare s t)
tails_order (suc n) (x ∷ xs) (y ∷ ys) s t le =
    ap (ordering_then (nat_cmp x y)) (tails_order n xs ys s t (omega arith))
    ∙ then_assoc (nat_cmp x y) (compare xs ys) (compare s t)

then_equal : (o : Ordering) → ordering_then o Equal ≡ o
then_equal Less = refl
then_equal Equal = refl
then_equal Greater = refl

pub keys_keep_order : KeysKeepOrder
keys_keep_order a b =
    let with_nothing : compare (tail_from 8 a ++ []) (tail_from 8 b ++ []) ≡ ordering_then (compare a b) Equal =
    tails_order 8 a b [] [] (omega arith) in
    ap (λ (w : List ℕ). compare w (encoded_key b)) (encoded_key-tail a ∙ sym (append-nil (tail_from 8 a)))
    ∙ ap (compare (tail_from 8 a ++ [])) (encoded_key-tail b ∙ sym (append-nil (tail_from 8 b)))
    ∙ with_nothing ∙ then_equal (compare a b)

pub versions_keep_order : VersionsKeepOrder
versions_keep_order a b s t hs ht =
    ap (λ (w : List ℕ). compare (w ++ encoded_timestamp s) (encoded_version b t)) (encoded_key-tail a)
    ∙ ap (λ (w : List ℕ). compare (tail_from 8 a ++ encoded_timestamp s) (w ++ encoded_timestamp t))
    (encoded_key-tail b)
    ∙ tails_order 8 a b (encoded_timestamp s) (encoded_timestamp t) (omega arith)
    ∙ ap (ordering_then (compare a b)) (words_order (2 ^ 64 - 1 - s) (2 ^ 64 - 1 - t) (omega arith) (omega arith)
    ∙ complements_order s t hs ht)
