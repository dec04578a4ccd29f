use Rattle.std.proofs.Common.{rules, ◌≡◌, ◌++◌, ◌∷◌, [], map, sym, ap, ◌∙◌}
use Rattle.serde_json.specs.Data.{array}
use Rattle.serde_json.specs.View.{items_of}
use Rattle.serde_json.specs.Written.{compact_text}
use Rattle.tx_text.specs.Texts.{members_text}
use Rattle.tx_text.proofs.Texts.{if_ok}
use Rattle.tx_text.proofs.Lists.{list_is}
use Rattle.tx_verdict_text.specs.Words.{key_data}
use Rattle.tx_verdict_text.proofs.line.put_keys.Goals as goal

pub returns : goal.returns
returns c =
    let old = c.args.out.now.items in
    let value = key_data c.args.history.now in
    let first = c.in-Some.first.now in
    let others = c.in-Some.others.now in
    let split : c.args.keys.now ≡ first ∷ others = search rules in
    let all : c.put_more_keys.new.out.items ≡ ((old ++ 91 ∷ []) ++ compact_text (value first))
    ++ members_text (items_of (map value others)) = search rules in
    if_ok c.extend_from_slice-3.result _ _ _ c.extend_from_slice-3.ensures.items (λ e. e ∙ ap (λ t. t ++ 93 ∷ []) all
    ∙ list_is old (value first) (items_of (map value others))
    ∙ ap (λ xs. old ++ compact_text (array (items_of (map value xs)))) (sym split))
