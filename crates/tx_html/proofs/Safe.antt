-- That data ends nothing.
use Rattle.std.proofs.Common.{◌≡◌, ◌==◌, ℕ, List, [], ◌∷◌, Bool, true, false, refl, if◌then◌else◌, arith}
use Rattle.std.proofs.lemmas.List.Elements.{All-append, All-nil, All-cons}
use Rattle.tx_html.specs.Pages.{shielded_byte, shielded, IsMarkless, IsData}

-- what holds of both ways
both : (c : Bool) (P : List ℕ → Type 0) (x y : List ℕ) → (c ≡ true → P x) → (c ≡ false → P y)
    → P (if c then x else y)
both true P x y f g = f refl
both false P x y f g = g refl

-- a byte that is none of the three
one_byte : (b : ℕ) → (b == 60) ≡ false → (b == 62) ≡ false → (b == 38) ≡ false → IsData (b ∷ [])
one_byte b h i j = All-cons IsMarkless b [] (grind arith) (All-nil IsMarkless)

-- each byte ends nothing
byte_is_data : (b : ℕ) → IsData (shielded_byte b)
byte_is_data b = both (b == 60) IsData _ _ (λ _. grind arith)
    (λ h. both (b == 62) IsData _ _ (λ _. grind arith)
    (λ i. both (b == 38) IsData _ _ (λ _. grind arith) (λ j. one_byte b h i j)))

-- nor does a text
pub is_data : (text : List ℕ) → IsData (shielded text)
is_data [] = All-nil IsMarkless
is_data (b ∷ bs) = All-append IsMarkless (shielded_byte b) (shielded bs)
    (byte_is_data b) (is_data bs)
