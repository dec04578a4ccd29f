-- A number that is taken from the front of bytes.
use Rattle.std.proofs.Common.{◌≡◌, ℕ, ◌^◌, ◌<◌, ◌≤◌, List, ◌∷◌, ◌++◌, length, take, drop, refl, sym, ap, ◌∙◌, arith, inl, inr}
use Rattle.std.specs.Int.{w16, w32, w64, to_be_bytes}
use Rattle.std.proofs.lemmas.Bool.{cases_lt}
use Rattle.std.proofs.lemmas.List.{take-append-drop, length-take, get_or-take, get_or_past}
use Rattle.byteorder.specs.Endian.{big_number}
use Rattle.tx_codec.specs.Readers.{Takes}
use Rattle.tx_codec.proofs.Words.{AreBytes, read_8, read_4, read_2, again_8, again_4, again_2, below_8, below_4, below_2}

AreBytes-take : (n : ℕ) (bytes : List ℕ) → AreBytes bytes → AreBytes (take n bytes)
AreBytes-take n bytes fits i =
    elim (cases_lt i n) [
      | inl lt ↦ rw (get_or-take n bytes i 0 lt) (fits i)
      | inr le ↦ rw (get_or_past (take n bytes) i 0 (omega (arith, length-take n bytes))) (omega arith)
    ]

number_8 : (bytes : List ℕ) → 8 ≤ length bytes → big_number 8 (take 8 bytes) ≡ big_number 8 bytes
number_8 (a ∷ b ∷ c ∷ d ∷ e ∷ f ∷ g ∷ h ∷ rest) le = refl
number_8 short le = absurd (omega arith)

number_4 : (bytes : List ℕ) → 4 ≤ length bytes → big_number 4 (take 4 bytes) ≡ big_number 4 bytes
number_4 (a ∷ b ∷ c ∷ d ∷ rest) le = refl
number_4 short le = absurd (omega arith)

number_2 : (bytes : List ℕ) → 2 ≤ length bytes → big_number 2 (take 2 bytes) ≡ big_number 2 bytes
number_2 (a ∷ b ∷ rest) le = refl
number_2 short le = absurd (omega arith)

pub takes_8 : (bytes : List ℕ)
    → AreBytes bytes → 8 ≤ length bytes
    → Takes (λ n. n < 2 ^ 64) (to_be_bytes w64) bytes (big_number 8 bytes) (drop 8 bytes)
takes_8 bytes fits le =
    let front : to_be_bytes w64 (big_number 8 bytes) ≡ take 8 bytes =
    ap (to_be_bytes w64) (sym (number_8 bytes le)) ∙ read_8 (take 8 bytes) (omega (arith, length-take 8 bytes))
    (AreBytes-take 8 bytes fits) in
    record {
      is = below_8 bytes fits;
      spelled = sym (ap (λ (w : List ℕ). w ++ drop 8 bytes) front ∙ take-append-drop 8 bytes);
      only = λ n after lt e. (sym (again_8 n lt) ∙ sym (ap (big_number 8) e), sym (ap (drop 8) e));
    }

pub takes_4 : (bytes : List ℕ)
    → AreBytes bytes → 4 ≤ length bytes
    → Takes (λ n. n < 2 ^ 32) (to_be_bytes w32) bytes (big_number 4 bytes) (drop 4 bytes)
takes_4 bytes fits le =
    let front : to_be_bytes w32 (big_number 4 bytes) ≡ take 4 bytes =
    ap (to_be_bytes w32) (sym (number_4 bytes le)) ∙ read_4 (take 4 bytes) (omega (arith, length-take 4 bytes))
    (AreBytes-take 4 bytes fits) in
    record {
      is = below_4 bytes fits;
      spelled = sym (ap (λ (w : List ℕ). w ++ drop 4 bytes) front ∙ take-append-drop 4 bytes);
      only = λ n after lt e. (sym (again_4 n lt) ∙ sym (ap (big_number 4) e), sym (ap (drop 4) e));
    }

pub takes_2 : (bytes : List ℕ)
    → AreBytes bytes → 2 ≤ length bytes
    → Takes (λ n. n < 2 ^ 16) (to_be_bytes w16) bytes (big_number 2 bytes) (drop 2 bytes)
takes_2 bytes fits le =
    let front : to_be_bytes w16 (big_number 2 bytes) ≡ take 2 bytes =
    ap (to_be_bytes w16) (sym (number_2 bytes le)) ∙ read_2 (take 2 bytes) (omega (arith, length-take 2 bytes))
    (AreBytes-take 2 bytes fits) in
    record {
      is = below_2 bytes fits;
      spelled = sym (ap (λ (w : List ℕ). w ++ drop 2 bytes) front ∙ take-append-drop 2 bytes);
      only = λ n after lt e. (sym (again_2 n lt) ∙ sym (ap (big_number 2) e), sym (ap (drop 2) e));
    }
