use Rattle.std.proofs.Common.{◌++◌, codes, ◌∷◌, [], ap, ◌∙◌}
use Rattle.json.specs.Print.{escape_byte}
use Rattle.serde_json.specs.Data.{object, string}
use Rattle.serde_json.specs.Written.{compact_text}
use Rattle.tx_text.proofs.Texts.{if_ok}
use Rattle.tx_check.proofs.Joins.{join_two}
use Rattle.tx_verdict_text.specs.Words.{rule_word, fact_members}
use Rattle.tx_verdict_text.proofs.Lines.{after, pair_end}
use Rattle.tx_verdict_text.proofs.line.put_fact_line.Goals as goal

pub returns : goal.returns
unfolding escape_byte
returns c =
    let old = c.args.out.now.items in
    let before = codes "[\"import\",\"no\"," in
    let name = compact_text (string (rule_word c.args.fact.rule)) in
    let told = compact_text (object (fact_members c.args.history.now c.args.fact)) in
    if_ok c.extend_from_slice-3.result _ _ _ c.extend_from_slice-3.ensures.items (λ e. e
    ∙ join_two old (before ++ name) (44 ∷ told) (93 ∷ 10 ∷ [])
    (after old before name c.in_ok-extend_from_slice.ensures.items c.in_ok-put_rule.ensures)
    (after c.put_rule.new.out.items (44 ∷ []) told c.in_ok-extend_from_slice-2.ensures.items
    c.in_ok-put_fact.ensures)
    ∙ ap (λ t. old ++ (before ++ t)) (pair_end name told))
