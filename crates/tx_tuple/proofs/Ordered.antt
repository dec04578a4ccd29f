-- Tuples order as their bytes.
use Rattle.std.proofs.Common.{◌≡◌, ℕ, zero, suc, ◌^◌, ◌<◌, List, [], ◌∷◌, ◌++◌, length, ℤ, pos, negsuc, ◌<ℤ◌, append_assoc, refl, sym, ap, ◌∙◌, arith}
use Rattle.std.specs.Ordering.{MatchOrdering, nat_cmp, int_cmp, ordering_then}
use Rattle.std.specs.declared.cmp.Ordering.{Ordering}
use Rattle.std.specs.declared.cmp.Ordering.TheVariants.{Less, Equal, Greater}
use Rattle.std.specs.Cmp.{nat_cmp_is, int_ranks, int_ranked}
use Rattle.std.specs.Cmp.Lexicographic.{slice_cmp}
use Rattle.std.specs.Int.{w64, to_be_bytes}
use Rattle.std.proofs.lemmas.Cmp.{tied_itself, nat_cmp_total, nat_list_cmp_total, ranked}
use Rattle.std.proofs.lemmas.Map.Lookups.{exact_bytes}
use Rattle.std.proofs.lemmas.Int.{ints}
use Rattle.tx_codec.proofs.Numbers.{words_order}
use Rattle.tx_tuple.specs.Tuples.{Element, IsElement, ended, raised, element_bytes, packed, element_cmp, TuplesKeepOrder, OneTuple, PrefixesAreTuples}
use Rattle.tx_tuple.specs.Tuples.Element.{Bytes, Text, Signed, Unsigned}

abbrev compare : List ℕ → List ℕ → Ordering
compare = slice_cmp nat_cmp

same_front : (p x y : List ℕ) → compare (p ++ x) (p ++ y) ≡ compare x y
same_front [] x y = refl
same_front (z ∷ p) x y = rw (tied_itself nat_cmp_total z) (same_front p x y)

below : (x y : ℕ) → x < y → nat_cmp x y ≡ Less
below x y lt = sym (nat_cmp_is x y Less lt)

above : (x y : ℕ) → y < x → nat_cmp x y ≡ Greater
above x y lt = sym (nat_cmp_is x y Greater lt)

then_assoc : (a b c : Ordering) → ordering_then a (ordering_then b c) ≡ ordering_then (ordering_then a b) c
then_assoc Less b c = refl
then_assoc Equal b c = refl
then_assoc Greater b c = refl

-- bytes and their end, before anything
ended_order : (a b s t : List ℕ) → compare (ended a ++ s) (ended b ++ t) ≡ ordering_then (compare a b) (compare s t)
ended_order [] [] s t = refl
ended_order [] (zero ∷ ys) s t = refl
ended_order [] (suc y ∷ ys) s t = rw (below 0 (suc y) (omega arith)) refl
ended_order (zero ∷ xs) [] s t = refl
ended_order (suc x ∷ xs) [] s t = rw (above (suc x) 0 (omega arith)) refl
ended_order (zero ∷ xs) (zero ∷ ys) s t = ended_order xs ys s t
ended_order (zero ∷ xs) (suc y ∷ ys) s t = rw (below 0 (suc y) (omega arith)) refl
ended_order (suc x ∷ xs) (zero ∷ ys) s t = rw (above (suc x) 0 (omega arith)) refl
ended_order (suc x ∷ xs) (suc y ∷ ys) s t =
    ap (ordering_then (nat_cmp (suc x) (suc y))) (ended_order xs ys s t)
    ∙ then_assoc (nat_cmp (suc x) (suc y)) (compare xs ys) (compare s t)

-- lists of one length decide before what follows
as_long : (a b s t : List ℕ) → length a ≡ length b
    → compare (a ++ s) (b ++ t) ≡ ordering_then (compare a b) (compare s t)
as_long [] [] s t e = refl
as_long [] (y ∷ ys) s t e = absurd (omega (arith, e))
as_long (x ∷ xs) [] s t e = absurd (omega (arith, e))
as_long (x ∷ xs) (y ∷ ys) s t e =
    ap (ordering_then (nat_cmp x y)) (as_long xs ys s t (omega (arith, e)))
    ∙ then_assoc (nat_cmp x y) (compare xs ys) (compare s t)

words : (a b : ℕ) (s t : List ℕ) → a < 2 ^ 64 → b < 2 ^ 64
    → compare (to_be_bytes w64 a ++ s) (to_be_bytes w64 b ++ t) ≡ ordering_then (nat_cmp a b) (compare s t)
words a b s t p q =
    as_long (to_be_bytes w64 a) (to_be_bytes w64 b) s t refl
    ∙ ap (λ (o : Ordering). ordering_then o (compare s t)) (words_order a b p q)

pub raised_below : (z : ℤ) → IsElement (Signed z) → raised z < 2 ^ 64
raised_below (pos n) is = omega (arith, ints, is)
raised_below (negsuc n) is = omega (arith, ints, is)

raised_less : (a b : ℤ) → IsElement (Signed a) → IsElement (Signed b) → a <ℤ b → raised a < raised b
raised_less (pos a) (pos b) p q lt = omega (arith, ints, p, q, lt)
raised_less (pos a) (negsuc b) p q lt = absurd (omega (arith, ints, p, q, lt))
raised_less (negsuc a) (pos b) p q lt = omega (arith, ints, p, q, lt)
raised_less (negsuc a) (negsuc b) p q lt = omega (arith, ints, p, q, lt)

ranks : (a b : ℤ) (o : Ordering) → IsElement (Signed a) → IsElement (Signed b)
    → MatchOrdering o (a <ℤ b) (a ≡ b) (b <ℤ a)
    → MatchOrdering o (raised a < raised b) (raised a ≡ raised b) (raised b < raised a)
ranks a b Less p q lt = raised_less a b p q lt
ranks a b Equal p q e = ap raised e
ranks a b Greater p q lt = raised_less b a q p lt

raised_order : (a b : ℤ) → IsElement (Signed a) → IsElement (Signed b) → nat_cmp (raised a) (raised b) ≡ int_cmp a b
raised_order a b p q =
    sym (nat_cmp_is (raised a) (raised b) (int_cmp a b) (ranks a b (int_cmp a b) p q (int_ranks a b)))

-- an element, before anything
element_order : (x y : Element) (s t : List ℕ) → IsElement x → IsElement y
    → compare (element_bytes x ++ s) (element_bytes y ++ t) ≡ ordering_then (element_cmp x y) (compare s t)
element_order (Bytes a) (Bytes b) s t p q = ended_order a b s t
element_order (Text a) (Text b) s t p q = ended_order a b s t
element_order (Signed a) (Signed b) s t p q =
    words (raised a) (raised b) s t (raised_below a p) (raised_below b q)
    ∙ ap (λ (o : Ordering). ordering_then o (compare s t)) (raised_order a b p q)
element_order (Unsigned a) (Unsigned b) s t p q = words a b s t p q
element_order (Bytes a) (Text b) s t p q = refl
element_order (Bytes a) (Signed b) s t p q = refl
element_order (Bytes a) (Unsigned b) s t p q = refl
element_order (Text a) (Bytes b) s t p q = refl
element_order (Text a) (Signed b) s t p q = refl
element_order (Text a) (Unsigned b) s t p q = refl
element_order (Signed a) (Bytes b) s t p q = refl
element_order (Signed a) (Text b) s t p q = refl
element_order (Signed a) (Unsigned b) s t p q = refl
element_order (Unsigned a) (Bytes b) s t p q = refl
element_order (Unsigned a) (Text b) s t p q = refl
element_order (Unsigned a) (Signed b) s t p q = refl

pub tuples_keep_order : TuplesKeepOrder
tuples_keep_order [] [] p q = refl
tuples_keep_order [] (y ∷ ys) p q = refl
tuples_keep_order (x ∷ xs) [] p q = refl
tuples_keep_order (x ∷ xs) (y ∷ ys) p q =
    element_order x y (packed xs) (packed ys) p.0 q.0
    ∙ ap (ordering_then (element_cmp x y)) (tuples_keep_order xs ys p.1 q.1)

both_equal : (o r : Ordering) → ordering_then o r ≡ Equal → (o ≡ Equal) × (r ≡ Equal)
both_equal Less r e = absurd (cc e)
both_equal Equal r e = (refl, e)
both_equal Greater r e = absurd (cc e)

same_element : (x y : Element) → element_cmp x y ≡ Equal → x ≡ y
same_element (Bytes a) (Bytes b) e = ap Bytes (exact_bytes a b e)
same_element (Text a) (Text b) e = ap Text (exact_bytes a b e)
same_element (Signed a) (Signed b) e = ap Signed (int_ranked a b Equal (sym e))
same_element (Unsigned a) (Unsigned b) e = ap Unsigned (ranked a b Equal (sym e))
same_element (Bytes a) (Text b) e = absurd (cc e)
same_element (Bytes a) (Signed b) e = absurd (cc e)
same_element (Bytes a) (Unsigned b) e = absurd (cc e)
same_element (Text a) (Bytes b) e = absurd (cc e)
same_element (Text a) (Signed b) e = absurd (cc e)
same_element (Text a) (Unsigned b) e = absurd (cc e)
same_element (Signed a) (Bytes b) e = absurd (cc e)
same_element (Signed a) (Text b) e = absurd (cc e)
same_element (Signed a) (Unsigned b) e = absurd (cc e)
same_element (Unsigned a) (Bytes b) e = absurd (cc e)
same_element (Unsigned a) (Text b) e = absurd (cc e)
same_element (Unsigned a) (Signed b) e = absurd (cc e)

-- the element at the front of bytes is one, and so is what follows
pub one_element : (x y : Element) (s t : List ℕ) → IsElement x → IsElement y
    → element_bytes x ++ s ≡ element_bytes y ++ t → (x ≡ y) × (s ≡ t)
one_element x y s t p q e =
    let tied : compare (element_bytes x ++ s) (element_bytes y ++ t) ≡ Equal =
    ap (λ (w : List ℕ). compare (element_bytes x ++ s) w) (sym e)
    ∙ tied_itself nat_list_cmp_total (element_bytes x ++ s) in
    let both = both_equal (element_cmp x y) (compare s t) (sym (element_order x y s t p q) ∙ tied) in
    (same_element x y both.0, exact_bytes s t both.1)

pub prefixes_are_tuples : PrefixesAreTuples
prefixes_are_tuples [] b rest p q e = (b, refl, sym e)
prefixes_are_tuples (x ∷ xs) [] rest p q e = absurd (omega (arith, ap length e))
prefixes_are_tuples (x ∷ xs) (y ∷ ys) rest p q e =
    let one = one_element y x (packed ys) (packed xs ++ rest) q.0 p.0
    (e ∙ append_assoc (element_bytes x) (packed xs) rest) in
    let more = prefixes_are_tuples xs ys rest p.1 q.1 one.1 in
    (more.0, (λ i. one.0 i ∷ more.1 i), more.2)

pub tuples_are_one : OneTuple
tuples_are_one [] [] p q e = refl
tuples_are_one [] (y ∷ ys) p q e = absurd (omega (arith, ap length e))
tuples_are_one (x ∷ xs) [] p q e = absurd (omega (arith, ap length e))
tuples_are_one (x ∷ xs) (y ∷ ys) p q e =
    let one = one_element x y (packed xs) (packed ys) p.0 q.0 e in
    let more = tuples_are_one xs ys p.1 q.1 one.1 in
    (λ i. one.0 i ∷ more i)
