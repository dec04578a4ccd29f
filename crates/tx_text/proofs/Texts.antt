-- The text of a reply line, part by part.
use Rattle.std.proofs.Common.{◌≡◌, ◌≢◌, ℕ, ◌+◌, ◌≤◌, ◌<◌, List, [], ◌∷◌, ◌++◌, length, take, get_or, refl, sym, ap, ◌∙◌, ne_eqb, append_assoc, append-nil, add-one, codes, false, Result, Ok, Err, OnOk, arith, inl, inr, Bool, true, subst}
use Rattle.std.specs.Prelude.{if◌then◌else◌}
use Rattle.std.proofs.Math.Seq.{take-suc}
use Rattle.std.specs.Prelude.{decimal, IsUtf8}
use Rattle.std.proofs.lemmas.Bool.{le-ltb, cases_Bool, cases_lt}
use Rattle.std.proofs.lemmas.Grind.{flat_map-append}
use Rattle.std.proofs.lemmas.Str.{is_utf8-from_IsUtf8, IsUtf8-from_is_utf8}
use Rattle.std.specs.Str.{is_utf8}
use Rattle.std.specs.Result.{is_ok}
use Rattle.json.specs.Print.{escape, escape_byte}
use Rattle.serde_json.specs.Data.{Items, no_items, item, number, unsigned, string, null}
use Rattle.serde_json.specs.Written.{compact_text, items_text}
use Rattle.tx_text.specs.Texts.{line_text, text_of, members_text}

-- the members of an array after the first, and its bracket
pub later : (ds : Items) → items_text true ds ≡ members_text ds ++ 93 ∷ []
later no_items = refl
later (item d ds) = ap (λ t. 44 ∷ (compact_text d ++ t)) (later ds)
    ∙ ap (λ t. 44 ∷ t) (sym (append_assoc (compact_text d) (members_text ds) (93 ∷ [])))

-- a bracket, the number, the words, a bracket and a newline
pub line_is : (old : List ℕ) (n : ℕ) (ds : Items)
    → (((old ++ 91 ∷ []) ++ decimal n) ++ members_text ds) ++ 93 ∷ 10 ∷ [] ≡ old
    ++ line_text (item (number (unsigned n)) ds)
line_is old n ds =
    append_assoc ((old ++ 91 ∷ []) ++ decimal n) (members_text ds) (93 ∷ 10 ∷ [])
    ∙ append_assoc (old ++ 91 ∷ []) (decimal n) (members_text ds ++ 93 ∷ 10 ∷ [])
    ∙ append_assoc old (91 ∷ []) (decimal n ++ (members_text ds ++ 93 ∷ 10 ∷ []))
    ∙ ap (λ t. old ++ 91 ∷ t) (
    ap (λ t. decimal n ++ t) (sym (append_assoc (members_text ds) (93 ∷ []) (10 ∷ []))
    ∙ ap (λ t. t ++ 10 ∷ []) (sym (later ds)))
    ∙ sym (append_assoc (decimal n) (items_text true ds) (10 ∷ [])))

plain_byte : (x : ℕ) → 32 ≤ x → x ≢ 34 → x ≢ 92 → escape_byte x ≡ x ∷ []
unfolding escape_byte
plain_byte x low q b =
    rw (
      ne_eqb x 34 q,
      ne_eqb x 92 b,
      ne_eqb x 8 (λ e. absurd (omega (arith, e))),
      ne_eqb x 12 (λ e. absurd (omega (arith, e))),
      ne_eqb x 10 (λ e. absurd (omega (arith, e))),
      ne_eqb x 13 (λ e. absurd (omega (arith, e))),
      ne_eqb x 9 (λ e. absurd (omega (arith, e))),
      le-ltb x 32 low,
    ) refl

-- one more plain byte
pub plain_more : (bytes : List ℕ) (at : ℕ) → at < length bytes → 32 ≤ get_or bytes at 0 → get_or bytes at 0 ≢ 34
    → get_or bytes at 0 ≢ 92 → escape (take at bytes) ≡ take at bytes
    → escape (take (at + 1) bytes) ≡ take (at + 1) bytes
plain_more bytes at h low q b same =
    let more : take (at + 1) bytes ≡ take at bytes ++ get_or bytes at 0 ∷ [] =
    ap (λ n. take n bytes) (add-one at) ∙ take-suc bytes at 0 h in
    ap escape more ∙ flat_map-append escape_byte (take at bytes) (get_or bytes at 0 ∷ [])
    ∙ ap (λ t. t ++ (escape_byte (get_or bytes at 0) ++ [])) same
    ∙ ap (λ t. take at bytes ++ (t ++ [])) (plain_byte (get_or bytes at 0) low q b)
    ∙ sym more

-- one more byte of ASCII
pub below_more : (bytes : List ℕ) (at : ℕ) → ((i : ℕ) → i < at → get_or bytes i 0 < 128) → get_or bytes at 0 < 128
    → (i : ℕ) → i < at + 1 → get_or bytes i 0 < 128
below_more bytes at all last i h =
    elim (cases_lt i at) [ inl l ↦ all i l | inr g ↦ subst (λ k. get_or bytes k 0 < 128) (omega (arith, g)) last ]

pub text_is : (old bytes : List ℕ) → IsUtf8 bytes
    → ((old ++ 34 ∷ []) ++ escape bytes) ++ 34 ∷ [] ≡ old ++ compact_text (text_of bytes)
text_is old bytes text =
    append_assoc (old ++ 34 ∷ []) (escape bytes) (34 ∷ []) ∙ append_assoc old (34 ∷ []) (escape bytes ++ 34 ∷ [])
    ∙ ap (λ t. old ++ compact_text t) (sym (chosen (is_utf8 bytes) (is_utf8-from_IsUtf8 bytes text)))
  where
    chosen : (b : Bool) → b ≡ true → (if b then string bytes else null) ≡ string bytes
    chosen b e = rw e refl

-- the same, where the bytes stand for themselves
pub plain_is : (old bytes : List ℕ) → IsUtf8 bytes → escape bytes ≡ bytes
    → ((old ++ 34 ∷ []) ++ bytes) ++ 34 ∷ [] ≡ old ++ compact_text (text_of bytes)
plain_is old bytes text same = ap (λ t. ((old ++ 34 ∷ []) ++ t) ++ 34 ∷ []) (sym same) ∙ text_is old bytes text

pub null_is : (old bytes : List ℕ) → (IsUtf8 bytes → ⊥)
    → old ++ 110 ∷ 117 ∷ 108 ∷ 108 ∷ [] ≡ old ++ compact_text (text_of bytes)
null_is old bytes none =
    elim (cases_Bool (is_utf8 bytes)) [
      | inl e ↦ absurd (none (IsUtf8-from_is_utf8 bytes e))
      | inr e ↦ ap (λ t. old ++ compact_text t) (sym (chosen (is_utf8 bytes) e))
    ]
  where
    chosen : (b : Bool) → b ≡ false → (if b then string bytes else null) ≡ null
    chosen b e = rw e refl

-- what `extend_from_slice` says, where it went well
pub if_ok : {T E : Type 0} {Q : Type 0} (r : Result T E) (x a b : List ℕ) → x ≡ (if is_ok r then a else b) → (x ≡ a → Q)
    → OnOk r Q
if_ok (Ok v) x a b e f = f e
if_ok (Err e) x a b is f = tt

pub on_ok : {T E : Type 0} {P Q : Type 0} (r : Result T E) → OnOk r P → (P → Q) → OnOk r Q
on_ok (Ok v) p f = f p
on_ok (Err e) p f = tt

abbrev pub committed_text : List ℕ
committed_text = codes ",\"committed\""

-- the word and a number, as they are written
pub committed_is : (old : List ℕ) (n : ℕ)
    → old ++ (committed_text ++ 44 ∷ decimal n) ≡ old
    ++ members_text (item (string (codes "committed")) (item (number (unsigned n)) no_items))
unfolding escape_byte
committed_is old n = ap (λ t. old ++ (committed_text ++ 44 ∷ t)) (sym (append-nil (decimal n)))

abbrev pub collected_text : List ℕ
collected_text = codes ",\"collected\""

-- the word and two numbers, as they are written
pub collected_is : (old : List ℕ) (m n : ℕ)
    → (old ++ (collected_text ++ 44 ∷ decimal m)) ++ 44 ∷ decimal n ≡ old
    ++ members_text (item (string (codes "collected"))
    (item (number (unsigned m)) (item (number (unsigned n)) no_items)))
unfolding escape_byte
collected_is old m n =
    append_assoc old (collected_text ++ 44 ∷ decimal m) (44 ∷ decimal n)
    ∙ ap (λ t. old ++ t) (append_assoc collected_text (44 ∷ decimal m) (44 ∷ decimal n))
    ∙ ap (λ t. old ++ (collected_text ++ 44 ∷ (decimal m ++ 44 ∷ t))) (sym (append-nil (decimal n)))
