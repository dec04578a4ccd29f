-- The text of members, one after the other.
use Rattle.std.proofs.Common.{◌≡◌, ℕ, Bool, true, List, [], ◌∷◌, ◌++◌, map, refl, sym, ap, ◌∙◌, append_assoc}
use Rattle.std.specs.Prelude.{IsUtf8, if◌then◌else◌}
use Rattle.std.specs.Str.{is_utf8}
use Rattle.std.proofs.lemmas.Str.{is_utf8-from_IsUtf8}
use Rattle.json.specs.Print.{escape_byte}
use Rattle.serde_json.specs.Data.{Data, string, array, null}
use Rattle.serde_json.specs.View.{items_of}
use Rattle.serde_json.specs.Written.{compact_text}
use Rattle.tx_text.specs.Texts.{text_of}
use Rattle.tx_steps.specs.Steps.{Text}
use Rattle.tx_step_text.specs.StepTexts.{later_text, bounds_line}

pub text_is_string : (bytes : List ℕ) → IsUtf8 bytes → text_of bytes ≡ string bytes
text_is_string bytes text = chosen (is_utf8 bytes) (is_utf8-from_IsUtf8 bytes text)
  where
    chosen : (b : Bool) → b ≡ true → (if b then string bytes else null) ≡ string bytes
    chosen b e = rw e refl

pub later_join : (xs ys : List Data) → later_text (xs ++ ys) ≡ later_text xs ++ later_text ys
later_join [] ys = refl
later_join (x ∷ xs) ys =
    ap (λ t. 44 ∷ (compact_text x ++ t)) (later_join xs ys)
    ∙ ap (λ t. 44 ∷ t) (sym (append_assoc (compact_text x) (later_text xs) (later_text ys)))

strings : {A : Type 0} (f : A → Text) (xs : List A) → map (λ x. string (f x)) xs ≡ map string (map f xs)
strings f [] = refl
strings f (x ∷ xs) = ap (λ ds. string (f x) ∷ ds) (strings f xs)

-- a bracket, the word and a comma
abbrev pub regions_text : List ℕ
regions_text = 91 ∷ 34 ∷ 114 ∷ 101 ∷ 103 ∷ 105 ∷ 111 ∷ 110 ∷ 115 ∷ 34 ∷ 44 ∷ []

-- and then the list and a bracket
pub bounds_is : {A : Type 0} (f : A → Text) (old : List ℕ) (xs : List A)
    → ((old ++ regions_text) ++ compact_text (array (items_of (map (λ x. string (f x)) xs)))) ++ 93 ∷ []
    ≡ old ++ bounds_line (map f xs)
unfolding escape_byte
bounds_is f old xs =
    let list = compact_text (array (items_of (map (λ x. string (f x)) xs))) in
    append_assoc (old ++ regions_text) list (93 ∷ [])
    ∙ append_assoc old regions_text (list ++ 93 ∷ [])
    ∙ ap (λ ds. old ++ (regions_text ++ (compact_text (array (items_of ds)) ++ 93 ∷ []))) (strings f xs)
