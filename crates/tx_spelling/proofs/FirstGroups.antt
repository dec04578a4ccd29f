-- Keys that are spelt by their first group, its marker, and the groups behind it.
use Rattle.std.proofs.Common.{◌≡◌, ◌≢◌, ℕ, ◌-◌, ◌^◌, ◌<◌, ◌≤◌, List, [], ◌∷◌, ◌++◌, length, take, drop, replicate, ◌↔◌, IsTrue, true, refl, sym, ap, ◌∙◌, append-nil, arith, inl, inr}
use Rattle.std.specs.Int.{w64, to_be_bytes}
use Rattle.std.specs.Ordering.{nat_cmp, ordering_then, is_eq, eq_by_cmp}
use Rattle.std.specs.declared.cmp.Ordering.{Ordering}
use Rattle.std.specs.declared.cmp.Ordering.TheVariants.{Less, Equal, Greater}
use Rattle.std.specs.Cmp.Lexicographic.{slice_cmp}
use Rattle.std.proofs.lemmas.Cmp.{tied_itself, nat_list_cmp_total}
use Rattle.std.proofs.lemmas.Bool.{cases_lt}
use Rattle.std.proofs.lemmas.List.{length-append, length-take, length-drop}
use Rattle.std.proofs.lemmas.Map.Lookups.{exact_unsigned, exact_bytes}
use borrow.Rule.Slice.PartMut.{put_mid, post_of}
use Rattle.std.proofs.Math.Seq.{take-append_seam}
use Rattle.std.proofs.Math.ListN.{drop_of_length-le}
use Rattle.tx_codec.specs.Keys.{IsKey, encoded_key, KeysKeepOrder}
use Rattle.tx_codec.proofs.Groups.{encoded_key-last, encoded_key-split, encoded_key-length, encoded_key-long, encoded_key-whole, last_group-parts}
use Rattle.tx_codec.proofs.Numbers.{words_order}
use Rattle.tx_spelling.specs.Spelt.{spelt, SpellsKey}
use Rattle.tx_spelling.proofs.ByteOrder.{compare, fronts_first, tied, equals}

-- the parts decide one after the other
parts_order : (m n a b : ℕ) (s t : List ℕ) → m < 2 ^ 64
    → n < 2 ^ 64 → compare (spelt m a s) (spelt n b t) ≡ ordering_then (nat_cmp m n)
    (ordering_then (nat_cmp a b) (compare s t))
parts_order m n a b s t hm hn =
    fronts_first (to_be_bytes w64 m) (to_be_bytes w64 n) (a ∷ s) (b ∷ t) refl
    ∙ ap (λ (o : Ordering). ordering_then o (ordering_then (nat_cmp a b) (compare s t))) (words_order m n hm hn)

-- spelt keys order as what spells them
keys_by : KeysKeepOrder → (x y j k : List ℕ) → x ≡ encoded_key j → y ≡ encoded_key k → compare x y ≡ compare j k
keys_by law x y j k p q = ap (λ (w : List ℕ). compare w y) p ∙ ap (compare (encoded_key j)) q ∙ law j k

module _ (law : KeysKeepOrder) (m n a b : ℕ) (s t j k : List ℕ) (p : SpellsKey m a s j) (q : SpellsKey n b t k) where
  parts : compare j k ≡ ordering_then (nat_cmp m n) (ordering_then (nat_cmp a b) (compare s t))
  parts = sym (keys_by law (spelt m a s) (spelt n b t) j k p.2 q.2) ∙ parts_order m n a b s t p.0 q.0

  pub first_decides : m ≢ n → compare j k ≡ nat_cmp m n
  first_decides ne = parts ∙ tied (nat_cmp m n) (ordering_then (nat_cmp a b) (compare s t))
      (λ e. ne (exact_unsigned m n e))

  pub behind_decides : m ≡ n → compare j k ≡ ordering_then (nat_cmp a b) (compare s t)
  behind_decides same = parts
      ∙ ap (λ (o : Ordering). ordering_then o (ordering_then (nat_cmp a b) (compare s t))) (ap (nat_cmp m) (sym same)
      ∙ equals m)

-- a key that is shorter than a group
pub short_spells : (key : List ℕ) (first : ℕ) → first < 2 ^ 64 → IsKey key
    → length key < 8 → to_be_bytes w64 first ≡ key ++ replicate (8 - length key) 0
    → SpellsKey first (255 - (8 - length key)) [] key
short_spells key first fits is lt e =
    (fits, is, ap (λ (w : List ℕ). w ++ (255 - (8 - length key)) ∷ []) e ∙ sym (encoded_key-last key lt))

-- a key that has a whole group
pub long_spells : (key rest : List ℕ) (first : ℕ) → first < 2 ^ 64 → IsKey key
    → 8 ≤ length key → to_be_bytes w64 first ≡ take 8 key → rest ≡ encoded_key (drop 8 key)
    → SpellsKey first 255 rest key
long_spells key rest first fits is le e encoded = (
  fits,
  is,
  ap (λ (w : List ℕ). w ++ 255 ∷ rest) e ∙ ap (λ (w : List ℕ). take 8 key ++ 255 ∷ w) encoded
      ∙ sym (encoded_key-split key le),
)

-- a key that has a whole group and a part of one more
pub middling_spells : (key : List ℕ) (first last : ℕ) → first < 2 ^ 64 → IsKey key → 8 ≤ length key → length key < 16
    → to_be_bytes w64 first ≡ take 8 key
    → to_be_bytes w64 last ≡ drop 8 key ++ replicate (8 - length (drop 8 key)) 0
    → SpellsKey first 255 (to_be_bytes w64 last ++ (255 - (8 - length (drop 8 key))) ∷ []) key
middling_spells key first last fits is le lt e behind =
    long_spells key (to_be_bytes w64 last ++ (255 - (8 - length (drop 8 key))) ∷ []) first fits is le e
    (ap (λ (w : List ℕ). w ++ (255 - (8 - length (drop 8 key))) ∷ []) behind
    ∙ sym (encoded_key-last (drop 8 key) (omega (arith, lt, length-drop 8 key))))

-- two groups, written one behind the other
pub two_groups : (first zeros second : List ℕ) → length first ≡ 8 → length zeros ≡ 8
    → put_mid 8 8 (first ++ zeros) second ≡ first ++ second
two_groups first zeros second l m =
    let front : take 8 (first ++ zeros) ≡ first = ap (λ n. take n (first ++ zeros)) (sym l)
    ∙ take-append_seam first zeros in
    let back : post_of 8 8 (first ++ zeros) ≡ [] =
    drop_of_length-le (drop 8 (first ++ zeros)) {i = 8}
    (omega (arith, l, m, length-append first zeros, length-drop 8 (first ++ zeros))) in
    ap (λ (w : List ℕ). w ++ (second ++ post_of 8 8 (first ++ zeros))) front
    ∙ ap (λ (w : List ℕ). first ++ (second ++ w)) back ∙ ap (λ (w : List ℕ). first ++ w) (append-nil second)

-- a key of which all is in the first group
pub short_read : (first marker : ℕ) (key : List ℕ) → SpellsKey first marker [] key
    → key ≡ take (marker - 247) (to_be_bytes w64 first)
short_read first marker key s =
    let word : List ℕ = to_be_bytes w64 first in
    let size = length-append word (marker ∷ []) in
    elim (cases_lt (length key) 8) [
      | inl lt ↦ (last_group-parts key word marker lt (s.2 ∙ encoded_key-last key lt)).front
      | inr ge ↦ absurd (omega (
        arith,
        ap length s.2,
        size,
        ap length (encoded_key-split key ge),
        length-append (take 8 key) (255 ∷ encoded_key (drop 8 key)),
        length-take 8 key,
        encoded_key-long (drop 8 key),
      ))
    ]

-- a key of which the rest is in one group more
pub next_read : (first : ℕ) (last key : List ℕ) (marker : ℕ)
    → length last ≡ 8 → SpellsKey first 255 (last ++ marker ∷ []) key
    → key ≡ to_be_bytes w64 first ++ take (marker - 247) last
next_read first last key marker l s =
    let word : List ℕ = to_be_bytes w64 first in
    let whole = encoded_key-whole key word (last ++ marker ∷ []) refl (sym s.2) in
    let more = whole.0 in
    whole.1 ∙ ap (λ (w : List ℕ). word ++ w) (elim (cases_lt (length more) 8) [
      | inl lt ↦ (last_group-parts more last marker lt (whole.2 ∙ encoded_key-last more lt)).front
      | inr ge ↦ absurd (omega (
        arith,
        l,
        length-append last (marker ∷ []),
        ap length whole.2,
        ap length
            (encoded_key-split more ge),
        length-append (take 8 more) (255 ∷ encoded_key (drop 8 more)),
        length-take 8 more,
        encoded_key-long (drop 8 more),
      ))
    ])

-- the groups behind the first are few
pub rest_short : (first marker : ℕ) (rest key : List ℕ) → SpellsKey first marker rest key → length rest ≤ 576
rest_short first marker rest key s =
    omega (arith, ap length s.2, length-append (to_be_bytes w64 first) (marker ∷ rest), encoded_key-length key, s.1.1)

-- keys that are told to be the same are
equal_of : (o : Ordering) → is_eq o ≡ true → o ≡ Equal
equal_of Less e = cc e
equal_of Equal e = refl
equal_of Greater e = cc e

pub tells_same : (j k : List ℕ) → IsTrue (eq_by_cmp (slice_cmp nat_cmp) j k) ↔ (j ≡ k)
tells_same j k = (
  λ e. exact_bytes j k (equal_of (slice_cmp nat_cmp j k) e),
  λ e. ap (λ (w : List ℕ). is_eq (slice_cmp nat_cmp w k)) e ∙ ap is_eq (tied_itself nat_list_cmp_total k),
)
