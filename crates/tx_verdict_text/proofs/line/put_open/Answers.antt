use Rattle.std.proofs.Common.{◌++◌, codes, ◌∷◌, [], map, ap, ◌∙◌}
use Rattle.json.specs.Print.{escape_byte}
use Rattle.serde_json.specs.Data.{array}
use Rattle.serde_json.specs.View.{items_of}
use Rattle.serde_json.specs.Written.{compact_text}
use Rattle.tx_text.proofs.Texts.{if_ok}
use Rattle.tx_check.proofs.Joins.{join_one}
use Rattle.tx_verdict_text.specs.Words.{key_data}
use Rattle.tx_verdict_text.proofs.Lines.{after, line_end}
use Rattle.tx_verdict_text.proofs.line.put_open.Goals as goal

pub returns : goal.returns
unfolding escape_byte
returns c =
    let old = c.args.out.now.items in
    let before = codes "[\"import\",\"open\"," in
    let keys = compact_text (array (items_of (map (key_data c.args.history.now) c.args.keys.now))) in
    if_ok c.extend_from_slice-2.result _ _ _ c.extend_from_slice-2.ensures.items (λ e. e
    ∙ join_one old (before ++ keys) (93 ∷ 10 ∷ [])
    (after old before keys c.in_ok-extend_from_slice.ensures.items c.in_ok-put_keys.ensures)
    ∙ ap (λ t. old ++ (before ++ t)) (line_end keys))
