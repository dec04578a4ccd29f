use Rattle.std.proofs.Common.{refl, ◌∙◌, ◌++◌, ◌∷◌, [], ap}
use Rattle.std.proofs.lemmas.Str.{IsUtf8-from_ascii}
use Rattle.serde_json.specs.Written.{compact_text}
use Rattle.tx_text.specs.Texts.{text_of}
use Rattle.tx_text.proofs.Texts.{on_ok}
use Rattle.tx_text.proofs.Lists.{row_is}
use Rattle.tx_text.proofs.rows.RowsEntriesKeyValue.put.Goals as goal

pub returns-then-is_simple-2 : goal.returns-then-is_simple-2
returns-then-is_simple-2 c =
    let old = c.args.out.now.items in
    let key = c.as_bytes-key.result.now in
    let value = c.as_bytes-value.result.now in
    let first = c.if-is_simple.ensures in
    let second = c.if-is_simple-2.ensures in
    on_ok c.put_simple.result c.put_simple.ensures (λ e. e
    ∙ row_is old key value (IsUtf8-from_ascii key (first.ascii refl)) (first.same refl)
    (IsUtf8-from_ascii value (second.ascii refl)) (second.same refl)
    ∙ ap (λ t. old ++ 91 ∷ (compact_text (text_of t) ++ 44 ∷ (compact_text (text_of value) ++ 93 ∷ [])))
    c.as_bytes-key.ensures.value
    ∙ ap (λ t. old ++ 91 ∷ (compact_text (text_of c.args.entry.now.key) ++ 44 ∷ (compact_text (text_of t) ++ 93 ∷ [])))
    c.as_bytes-value.ensures.value)
