-- No two keys or versions are spelled alike.
use Rattle.std.proofs.Common.{◌≡◌, ℕ, ◌+◌, ◌-◌, ◌^◌, ◌<◌, ◌≤◌, List, ◌++◌, length, take, drop, refl, sym, ap, ◌∙◌, arith}
use Rattle.std.specs.Ordering.{nat_cmp}
use Rattle.std.specs.Cmp.Lexicographic.{slice_cmp}
use Rattle.std.specs.Int.{w64, to_be_bytes}
use Rattle.std.proofs.lemmas.Cmp.{tied_itself, nat_list_cmp_total}
use Rattle.std.proofs.lemmas.List.{take-append-drop, length-take, length-drop, length-append, get_or-drop}
use Rattle.std.proofs.lemmas.Map.Lookups.{exact_bytes}
use Rattle.byteorder.specs.Endian.{big_number}
use Rattle.tx_codec.specs.Keys.{encoded_key, encoded_version, encoded_timestamp}
use Rattle.tx_codec.proofs.Lists.{same_fronts}
use Rattle.tx_codec.proofs.Words.{AreBytes, read_8, again_8, below_8}
use Rattle.tx_codec.proofs.Ordered.{keys_keep_order}

pub encoded_key-one : (a b : List ℕ) → encoded_key a ≡ encoded_key b → a ≡ b
encoded_key-one a b e =
    exact_bytes a b (sym (keys_keep_order a b) ∙ ap (slice_cmp nat_cmp (encoded_key a)) (sym e)
    ∙ tied_itself nat_list_cmp_total (encoded_key a))

-- the parts of an encoded version
pub version_parts : (bytes key : List ℕ) (ts n : ℕ) → 8 ≤ length bytes
    → n ≡ length bytes - 8 → bytes ≡ encoded_version key ts → (take n bytes ≡ encoded_key key)
    × (drop n bytes ≡ encoded_timestamp ts)
version_parts bytes key ts n le n-is e =
    let size : length (encoded_timestamp ts) ≡ 8 = refl in
    same_fronts (take n bytes) (encoded_key key) (drop n bytes) (encoded_timestamp ts)
    (omega (arith, ap length e, length-append (encoded_key key) (encoded_timestamp ts), length-take n bytes))
    (take-append-drop n bytes ∙ e)

AreBytes-drop : (n : ℕ) (bytes : List ℕ) → AreBytes bytes → AreBytes (drop n bytes)
AreBytes-drop n bytes fits i = rw get_or-drop (fits (n + i))

-- an encoded version, put together from what its parts spell
pub version_made : (bytes key : List ℕ) (ts n : ℕ) → AreBytes bytes → 8 ≤ length bytes
    → n ≡ length bytes - 8 → take n bytes ≡ encoded_key key → ts ≡ 2 ^ 64 - 1 - big_number 8 (drop n bytes)
    → bytes ≡ encoded_version key ts
version_made bytes key ts n fits le n-is front ts-is =
    let back = AreBytes-drop n bytes fits in
    let below = below_8 (drop n bytes) back in
    let twice : 2 ^ 64 - 1 - ts ≡ big_number 8 (drop n bytes) = omega arith in
    let word : encoded_timestamp ts ≡ drop n bytes =
    ap (to_be_bytes w64) twice ∙ read_8 (drop n bytes) (omega (arith, length-drop n bytes)) back in
    sym (take-append-drop n bytes) ∙ ap (λ (w : List ℕ). w ++ drop n bytes) front
    ∙ ap (λ (w : List ℕ). encoded_key key ++ w) (sym word)

-- the timestamp that these bytes spell
pub timestamp_is : (bytes : List ℕ) (ts : ℕ) → ts < 2 ^ 64 → bytes ≡ encoded_timestamp ts
    → 2 ^ 64 - 1 - big_number 8 bytes ≡ ts
timestamp_is bytes ts lt e =
    let word : big_number 8 bytes ≡ 2 ^ 64 - 1 - ts = ap (big_number 8) e ∙ again_8 (2 ^ 64 - 1 - ts) (omega arith) in
    omega arith
