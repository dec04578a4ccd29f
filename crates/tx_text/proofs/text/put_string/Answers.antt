use Rattle.std.proofs.Common.{rules, refl, ◌≡◌, ◌++◌, ◌∷◌, [], ap, ◌∙◌}
use Rattle.std.specs.Prelude.{IsUtf8}
use Rattle.json.specs.Print.{escape}
use Rattle.std.proofs.lemmas.Str.{IsUtf8-from_ascii}
use Rattle.tx_text.proofs.Texts.{text_is, plain_is, null_is, if_ok, on_ok}
use Rattle.tx_text.proofs.text.put_string.Goals as goal

pub returns-then-is_simple : goal.returns-then-is_simple
returns-then-is_simple c =
    let bytes = c.args.bytes.now in
    let is = c.if-is_simple.ensures in
    on_ok c.put_quoted.result c.put_quoted.ensures (λ e. e
    ∙ plain_is c.args.out.now.items bytes (IsUtf8-from_ascii bytes (is.ascii refl)) (is.same refl))

pub returns-then-is_err : goal.returns-then-is_err
returns-then-is_err c =
    let none : ¬ (IsUtf8 c.args.bytes.now) = search rules in
    if_ok c.extend_from_slice.result _ _ _ c.extend_from_slice.ensures.items (λ e. e
    ∙ null_is c.args.out.now.items c.args.bytes.now none)

pub returns : goal.returns
returns c =
    let old = c.args.out.now.items in
    let bytes = c.args.bytes.now in
    let text : IsUtf8 bytes = search rules in
    let all : c.put_escaped.new.out.items ≡ (old ++ 34 ∷ []) ++ escape bytes = search rules in
    if_ok c.extend_from_slice-3.result _ _ _ c.extend_from_slice-3.ensures.items (λ e. e ∙ ap (λ t. t ++ 34 ∷ []) all
    ∙ text_is old bytes text)
