-- The text of a line whose first member is any value.
use Rattle.std.proofs.Common.{◌≡◌, ℕ, List, [], ◌∷◌, ◌++◌, true, sym, ap, ◌∙◌, append_assoc, append-nil}
use Rattle.std.specs.Prelude.{decimal}
use Rattle.serde_json.specs.Data.{Data, Items, no_items, item, number, unsigned, array}
use Rattle.serde_json.specs.Written.{compact_text, items_text}
use Rattle.tx_text.specs.Texts.{line_text, members_text}
use Rattle.tx_text.proofs.Texts.{later, line_is}

-- a bracket, the first member, the others, a bracket and a newline
pub line_from : (old : List ℕ) (d : Data) (ds : Items)
    → (((old ++ 91 ∷ []) ++ compact_text d) ++ members_text ds) ++ 93 ∷ 10 ∷ [] ≡ old ++ line_text (item d ds)
line_from old d ds =
    append_assoc ((old ++ 91 ∷ []) ++ compact_text d) (members_text ds) (93 ∷ 10 ∷ [])
    ∙ append_assoc (old ++ 91 ∷ []) (compact_text d) (members_text ds ++ 93 ∷ 10 ∷ [])
    ∙ append_assoc old (91 ∷ []) (compact_text d ++ (members_text ds ++ 93 ∷ 10 ∷ []))
    ∙ ap (λ t. old ++ 91 ∷ t) (
    ap (λ t. compact_text d ++ t) (sym (append_assoc (members_text ds) (93 ∷ []) (10 ∷ []))
    ∙ ap (λ t. t ++ 10 ∷ []) (sym (later ds)))
    ∙ sym (append_assoc (compact_text d) (items_text true ds) (10 ∷ [])))

grouped : (a w m : List ℕ) → (((a ++ 44 ∷ 91 ∷ []) ++ w) ++ m) ++ 93 ∷ 93 ∷ 10 ∷ []
    ≡ (a ++ 44 ∷ 91 ∷ ((w ++ (m ++ 93 ∷ [])) ++ [])) ++ 93 ∷ 10 ∷ []
grouped a w m = simp (append_assoc, append-nil)

-- a bracket, a number, a comma, an array of a first member and others, a bracket and a newline
pub beside_from : (old : List ℕ) (n : ℕ) (d : Data) (ds : Items)
    → (((((old ++ 91 ∷ []) ++ decimal n) ++ 44 ∷ 91 ∷ []) ++ compact_text d) ++ members_text ds) ++ 93 ∷ 93 ∷ 10 ∷ []
    ≡ old ++ line_text (item (number (unsigned n)) (item (array (item d ds)) no_items))
beside_from old n d ds =
    let before = (old ++ 91 ∷ []) ++ decimal n in
    grouped before (compact_text d) (members_text ds)
    ∙ ap (λ t. (before ++ 44 ∷ 91 ∷ ((compact_text d ++ t) ++ [])) ++ 93 ∷ 10 ∷ []) (sym (later ds))
    ∙ line_is old n (item (array (item d ds)) no_items)
