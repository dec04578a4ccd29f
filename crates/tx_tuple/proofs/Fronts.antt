-- What bytes say of the part that is to stand at their front.
use Rattle.std.proofs.Common.{◌≡◌, ◌≢◌, ◌⊎◌, inl, inr, ℕ, zero, suc, ◌+◌, ◌^◌, ◌<◌, ◌≤◌, List, [], ◌∷◌, ◌++◌, length, take, drop, get_or, map, ◌-◌, refl, sym, ap, subst, ◌∙◌, arith}
use Rattle.std.proofs.lemmas.List.{take_rest, length-drop, length-append, get_or-drop}
use Rattle.std.specs.Str.{IsUtf8}
use Rattle.std.specs.List.{flat_map}
use Rattle.std.specs.Int.{w64, to_be_bytes}
use Rattle.tx_tuple.specs.Tuples.{Element, IsElement, AreElements, escaped, ended, raised, element, element_bytes, packed}
use Rattle.tx_tuple.specs.declared.part.Part.{Part}
use Rattle.tx_tuple.specs.Tuples.Element.{Bytes, Text, Signed, Unsigned}
use Rattle.tx_tuple.proofs.Ordered.{one_element, raised_below, prefixes_are_tuples}

-- behind what was read of bytes that are ended stand others that are
pub behind : (out rest other after : List ℕ) → flat_map escaped out ++ rest ≡ ended other ++ after
    → (more : List ℕ) × (rest ≡ ended more ++ after)
behind [] rest other after e = (other, e)
behind (zero ∷ xs) rest [] after e = absurd (omega (arith, ap (λ (w : List ℕ). get_or w 1 0) e))
behind (zero ∷ xs) rest (zero ∷ ys) after e = behind xs rest ys after (ap (drop 2) e)
behind (zero ∷ xs) rest (suc y ∷ ys) after e = absurd (omega (arith, ap (λ (w : List ℕ). get_or w 0 0) e))
behind (suc x ∷ xs) rest [] after e = absurd (omega (arith, ap (λ (w : List ℕ). get_or w 0 0) e))
behind (suc x ∷ xs) rest (zero ∷ ys) after e = absurd (omega (arith, ap (λ (w : List ℕ). get_or w 0 0) e))
behind (suc x ∷ xs) rest (suc y ∷ ys) after e = behind xs rest ys after (ap (drop 1) e)

-- bytes that are ended are two at least, and behind a zero stands one of two
pub record Ended (rest : List ℕ) : Type 0 where
  pub long : 2 ≤ length rest
  pub mark : get_or rest 0 0 ≡ 0 → (get_or rest 1 0 ≡ 255) ⊎ (get_or rest 1 0 ≡ 1)

is_ended : (more after : List ℕ) → Ended (ended more ++ after)
is_ended [] after = record { long = omega arith; mark = λ z. inr refl }
is_ended (zero ∷ ys) after = record { long = omega arith; mark = λ z. inl refl }
is_ended (suc y ∷ ys) after =
    let l = (is_ended ys after).long in
    record { long = omega (arith, l); mark = λ z. absurd (omega (arith, z)) }

pub left_ended : (bytes out rest other after : List ℕ) → bytes ≡ flat_map escaped out ++ rest
    → bytes ≡ ended other ++ after → Ended rest
left_ended bytes out rest other after made e =
    let b = behind out rest other after (sym made ∙ e) in
    subst Ended (sym b.1) (is_ended b.0 after)

-- no text whose bytes are no UTF-8
pub no_text : (bytes content held rest : List ℕ) → bytes ≡ 2 ∷ content → content ≡ ended held ++ rest
    → (IsUtf8 held → ⊥) → (e : Element) (after : List ℕ) → IsElement e → bytes ≢ element_bytes e ++ after
no_text bytes content held rest is spelled not (Text other) after isn e =
    let same = one_element (Bytes held) (Bytes other) rest after tt tt
    (ap (λ (w : List ℕ). 1 ∷ w) (sym spelled ∙ ap (drop 1) (sym is ∙ e))) in
    let alike : held ≡ other = cc (same.0) in
    not (subst IsUtf8 (sym alike) isn)
no_text bytes content held rest is spelled not (Bytes other) after isn e =
    omega (arith, ap (λ (w : List ℕ). get_or w 0 0) (sym is ∙ e))
no_text bytes content held rest is spelled not (Signed other) after isn e =
    omega (arith, ap (λ (w : List ℕ). get_or w 0 0) (sym is ∙ e))
no_text bytes content held rest is spelled not (Unsigned other) after isn e =
    omega (arith, ap (λ (w : List ℕ). get_or w 0 0) (sym is ∙ e))

-- no number where no 8 bytes stand
abbrev pub NoNumber : List ℕ → Type 0
NoNumber content = (n : ℕ) (after : List ℕ) → n < 2 ^ 64 → content ≢ to_be_bytes w64 n ++ after

pub no_signed : (bytes content : List ℕ) → bytes ≡ 3 ∷ content → NoNumber content
    → (e : Element) (after : List ℕ) → IsElement e → bytes ≢ element_bytes e ++ after
no_signed bytes content is none (Signed n) after isn e =
    none (raised n) after (raised_below n isn) (ap (drop 1) (sym is ∙ e))
no_signed bytes content is none (Bytes other) after isn e =
    omega (arith, ap (λ (w : List ℕ). get_or w 0 0) (sym is ∙ e))
no_signed bytes content is none (Text other) after isn e =
    omega (arith, ap (λ (w : List ℕ). get_or w 0 0) (sym is ∙ e))
no_signed bytes content is none (Unsigned other) after isn e =
    omega (arith, ap (λ (w : List ℕ). get_or w 0 0) (sym is ∙ e))

pub no_unsigned : (bytes content : List ℕ) → bytes ≡ 4 ∷ content → NoNumber content
    → (e : Element) (after : List ℕ) → IsElement e → bytes ≢ element_bytes e ++ after
no_unsigned bytes content is none (Unsigned n) after isn e = none n after isn (ap (drop 1) (sym is ∙ e))
no_unsigned bytes content is none (Bytes other) after isn e =
    omega (arith, ap (λ (w : List ℕ). get_or w 0 0) (sym is ∙ e))
no_unsigned bytes content is none (Text other) after isn e =
    omega (arith, ap (λ (w : List ℕ). get_or w 0 0) (sym is ∙ e))
no_unsigned bytes content is none (Signed other) after isn e =
    omega (arith, ap (λ (w : List ℕ). get_or w 0 0) (sym is ∙ e))

-- a tuple goes on where bytes are left, and where none stands at their front there is none
pub no_tuple : (key rest : List ℕ) (read tuple : List Element) → AreElements read → key ≡ packed read ++ rest
    → 0 < length rest → ((e : Element) (after : List ℕ) → IsElement e → rest ≢ element_bytes e ++ after)
    → AreElements tuple → key ≡ packed tuple → ⊥
no_tuple key rest read tuple are made some none all e =
    let p = prefixes_are_tuples read tuple rest are all (sym e ∙ made) in
    goes_on read p.0 rest some none (subst AreElements p.1 all) p.2
  where
    goes_on : (read more : List Element) (rest : List ℕ) → 0 < length rest
        → ((e : Element) (after : List ℕ) → IsElement e → rest ≢ element_bytes e ++ after)
        → AreElements (read ++ more) → rest ≡ packed more → ⊥
    goes_on (x ∷ xs) more rest some none are e = goes_on xs more rest some none are.1 e
    goes_on [] [] rest some none are e = omega (arith, some, ap length e)
    goes_on [] (m ∷ ms) rest some none are e = none m (packed ms) are.0 e

-- bytes whose first is this
pub first_is : (bytes : List ℕ) (tag : ℕ) → 1 ≤ length bytes → get_or bytes 0 0 ≡ tag
    → bytes ≡ tag ∷ take (length bytes - 1) (drop 1 bytes)
first_is [] tag some is = absurd (omega (arith, some))
first_is (b ∷ bs) tag some is =
    ap (λ (w : ℕ). w ∷ bs) is ∙ ap (λ (w : List ℕ). tag ∷ w) (sym (take_rest (b ∷ bs) 1))

-- what is behind the first of bytes, and its first
pub second_is : (rest : List ℕ) → (length (take (length rest - 1) (drop 1 rest)) ≡ length rest - 1)
    × (get_or (take (length rest - 1) (drop 1 rest)) 0 0 ≡ get_or rest 1 0)
second_is rest = rw (take_rest rest 1) (length-drop 1 rest, get_or-drop 1 rest 0 0)

-- the bytes of the parts as far as they are read, and those of the next, are at most all
pub as_far : (parts : List Part) (i : ℕ) (d : Part) → i < length parts
    → length (packed (map element (take i parts))) + length (element_bytes (element (get_or parts i d)))
    ≤ length (packed (map element parts))
as_far [] i d lt = absurd (omega (arith, lt))
as_far (p ∷ ps) zero d lt = omega (arith, length-append (element_bytes (element p)) (packed (map element ps)))
as_far (p ∷ ps) (suc i) d lt =
    omega (
      arith,
      as_far ps i d (omega (arith, lt)),
      length-append (element_bytes (element p)) (packed (map element ps)),
      length-append (element_bytes (element p)) (packed (map element (take i ps))),
    )
