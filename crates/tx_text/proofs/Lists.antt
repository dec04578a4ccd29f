-- The text of a list, entry by entry.
use Rattle.std.proofs.Common.{◌≡◌, ℕ, ◌+◌, ◌<◌, List, [], ◌∷◌, ◌++◌, length, take, map, get_or, sym, ap, ◌∙◌, append_assoc, append-nil}
use Rattle.std.proofs.lemmas.List.{map_more}
use Rattle.serde_json.specs.Data.{Data, Items, item, array}
use Rattle.serde_json.specs.View.{items_of}
use Rattle.serde_json.specs.Written.{compact_text}
use Rattle.std.specs.Prelude.{IsUtf8}
use Rattle.json.specs.Print.{escape}
use Rattle.tx_text.specs.Texts.{members_text, text_of}
use Rattle.tx_text.proofs.Texts.{later, plain_is}

members_more : (ds : List Data) (d : Data)
    → members_text (items_of (ds ++ d ∷ [])) ≡ members_text (items_of ds) ++ 44 ∷ compact_text d
members_more [] d = ap (λ t. 44 ∷ t) (append-nil (compact_text d))
members_more (x ∷ ds) d =
    ap (λ t. 44 ∷ (compact_text x ++ t)) (members_more ds d)
    ∙ ap (λ t. 44 ∷ t) (sym (append_assoc (compact_text x) (members_text (items_of ds)) (44 ∷ compact_text d)))

-- a comma and one more entry
pub entry_more : {X : Type 0} (f : X → Data) (old : List ℕ) (xs : List X) (i : ℕ) (d : X) → i < length xs
    → ((old ++ members_text (items_of (map f (take i xs)))) ++ 44 ∷ []) ++ compact_text (f (get_or xs i d)) ≡ old
    ++ members_text (items_of (map f (take (i + 1) xs)))
entry_more f old xs i d h =
    let so_far = map f (take i xs) in
    let one = f (get_or xs i d) in
    append_assoc (old ++ members_text (items_of so_far)) (44 ∷ []) (compact_text one)
    ∙ append_assoc old (members_text (items_of so_far)) (44 ∷ compact_text one)
    ∙ ap (λ t. old ++ t) (sym (members_more so_far one))
    ∙ ap (λ ds. old ++ members_text (items_of ds)) (sym (map_more f xs i d h))

-- a bracket, the first entry, the others, each with a comma before it, and a bracket
pub list_is : (old : List ℕ) (d : Data) (ds : Items)
    → (((old ++ 91 ∷ []) ++ compact_text d) ++ members_text ds) ++ 93 ∷ [] ≡ old ++ compact_text (array (item d ds))
list_is old d ds =
    append_assoc ((old ++ 91 ∷ []) ++ compact_text d) (members_text ds) (93 ∷ [])
    ∙ append_assoc (old ++ 91 ∷ []) (compact_text d) (members_text ds ++ 93 ∷ [])
    ∙ append_assoc old (91 ∷ []) (compact_text d ++ (members_text ds ++ 93 ∷ []))
    ∙ ap (λ t. old ++ 91 ∷ (compact_text d ++ t)) (sym (later ds))

-- bytes that stand for themselves, between quotes
quoted : (bytes : List ℕ) → IsUtf8 bytes → escape bytes ≡ bytes
    → 34 ∷ (bytes ++ 34 ∷ []) ≡ compact_text (text_of bytes)
quoted bytes text same = plain_is [] bytes text same

-- a row of two such strings, in five pieces
pub row_is : (old key value : List ℕ) → IsUtf8 key → escape key ≡ key → IsUtf8 value → escape value ≡ value
    → ((((old ++ 91 ∷ 34 ∷ []) ++ key) ++ 34 ∷ 44 ∷ 34 ∷ []) ++ value) ++ 34 ∷ 93 ∷ [] ≡ old
    ++ 91 ∷ (compact_text (text_of key) ++ 44 ∷ (compact_text (text_of value) ++ 93 ∷ []))
row_is old key value key_text key_same value_text value_same =
    let before = (old ++ 91 ∷ 34 ∷ []) ++ key in
    append_assoc (before ++ 34 ∷ 44 ∷ 34 ∷ []) value (34 ∷ 93 ∷ [])
    ∙ append_assoc before (34 ∷ 44 ∷ 34 ∷ []) (value ++ 34 ∷ 93 ∷ [])
    ∙ append_assoc (old ++ 91 ∷ 34 ∷ []) key (34 ∷ 44 ∷ 34 ∷ (value ++ 34 ∷ 93 ∷ []))
    ∙ append_assoc old (91 ∷ 34 ∷ []) (key ++ 34 ∷ 44 ∷ 34 ∷ (value ++ 34 ∷ 93 ∷ []))
    ∙ ap (λ t. old ++ 91 ∷ 34 ∷ (key ++ 34 ∷ 44 ∷ 34 ∷ t)) (sym (append_assoc value (34 ∷ []) (93 ∷ [])))
    ∙ ap (λ t. old ++ 91 ∷ 34 ∷ t) (sym (append_assoc key (34 ∷ []) (44 ∷ 34 ∷ ((value ++ 34 ∷ []) ++ 93 ∷ []))))
    ∙ ap (λ t. old ++ 91 ∷ (t ++ 44 ∷ ((34 ∷ (value ++ 34 ∷ [])) ++ 93 ∷ []))) (quoted key key_text key_same)
    ∙ ap (λ t. old ++ 91 ∷ (compact_text (text_of key) ++ 44 ∷ (t ++ 93 ∷ []))) (quoted value value_text value_same)
