-- Words are text, and a line is written part by part.
use Rattle.std.proofs.Common.{◌≡◌, ℕ, length, arith, None, List, [], ◌∷◌, ◌++◌, Bool, true, refl, sym, ap, ◌∙◌, append_assoc}
use Rattle.std.specs.Prelude.{if◌then◌else◌, IsUtf8}
use Rattle.std.proofs.lemmas.Str.{is_utf8-from_IsUtf8}
use Rattle.std.specs.Str.{is_utf8}
use Rattle.serde_json.specs.Data.{string, null}
use Rattle.tx_text.specs.Texts.{text_of}
use Rattle.tx_verdict.specs.declared.verdict.CycleStep.{CycleStep}
use Rattle.tx_verdict.specs.declared.verdict.EdgeKind.TheVariants.{Ww}

-- what stands past the end of steps
abbrev pub no_step : CycleStep
no_step = record { from = 0; edge = Ww; key = None; to = 0 }

-- bytes that are text are written as a string
pub text_so : (bytes : List ℕ) → IsUtf8 bytes → text_of bytes ≡ string bytes
text_so bytes text = chosen (is_utf8 bytes) (is_utf8-from_IsUtf8 bytes text)
  where
    chosen : (b : Bool) → b ≡ true → (if b then string bytes else null) ≡ string bytes
    chosen b e = rw e refl

-- ---- part by part

-- what stands before a part, and the part
pub after : {x y : List ℕ} (old n a : List ℕ) → x ≡ old ++ n → y ≡ x ++ a → y ≡ old ++ (n ++ a)
after old n a first second = second ∙ ap (λ t. t ++ a) first ∙ append_assoc old n a

-- the end of a line after its last member
pub line_end : (a : List ℕ) → a ++ 93 ∷ 10 ∷ [] ≡ (a ++ 93 ∷ []) ++ 10 ∷ []
line_end a = sym (append_assoc a (93 ∷ []) (10 ∷ []))

-- the same, where the last member is an object
pub object_end : (a : List ℕ) → a ++ 125 ∷ 93 ∷ 10 ∷ [] ≡ ((a ++ 125 ∷ []) ++ 93 ∷ []) ++ 10 ∷ []
object_end a =
    sym (append_assoc a (125 ∷ []) (93 ∷ 10 ∷ [])) ∙ line_end (a ++ 125 ∷ [])

-- the same, after two members
pub pair_end : (a b : List ℕ) → a ++ 44 ∷ (b ++ 93 ∷ 10 ∷ []) ≡ (a ++ 44 ∷ (b ++ 93 ∷ [])) ++ 10 ∷ []
pair_end a b = ap (λ t. a ++ 44 ∷ t) (line_end b) ∙ sym (append_assoc a (44 ∷ (b ++ 93 ∷ [])) (10 ∷ []))

-- the same, after four members
pub four_end : (a b c d : List ℕ) → a ++ 44 ∷ (b ++ 44 ∷ (c ++ 44 ∷ (d ++ 93 ∷ 10 ∷ [])))
    ≡ (a ++ 44 ∷ (b ++ 44 ∷ (c ++ 44 ∷ (d ++ 93 ∷ [])))) ++ 10 ∷ []
four_end a b c d =
    ap (λ t. a ++ 44 ∷ (b ++ 44 ∷ t)) (pair_end c d)
    ∙ ap (λ t. a ++ 44 ∷ t) (sym (append_assoc b (44 ∷ (c ++ 44 ∷ (d ++ 93 ∷ []))) (10 ∷ [])))
    ∙ sym (append_assoc a (44 ∷ (b ++ 44 ∷ (c ++ 44 ∷ (d ++ 93 ∷ [])))) (10 ∷ []))

-- a list of no elements
pub empty_so : {X : Type 0} (xs : List X) → length xs ≡ 0 → xs ≡ []
empty_so [] none = refl
empty_so (x ∷ xs) none = absurd (omega (arith, none))
