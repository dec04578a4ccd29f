use Rattle.std.proofs.Common.{◌≡◌, ◌++◌, codes, ◌∷◌, [], map, sym, ap, ◌∙◌}
use Rattle.json.specs.Print.{escape_byte}
use Rattle.serde_json.specs.Data.{array}
use Rattle.serde_json.specs.View.{items_of}
use Rattle.serde_json.specs.Written.{compact_text}
use Rattle.tx_text.specs.Texts.{line_text}
use Rattle.tx_text.proofs.Texts.{if_ok}
use Rattle.tx_check.proofs.Joins.{join_two}
use Rattle.tx_verdict_text.specs.Words.{steps_data, settled_data, answer_words, told_items}
use Rattle.tx_verdict_text.proofs.Lines.{after, pair_end, empty_so}
use Rattle.tx_verdict_text.proofs.line.put_refuted.Goals as goal

pub returns : goal.returns
unfolding escape_byte
returns c =
    let old = c.args.out.now.items in
    let x = c.args.refutation.now in
    let h = c.args.history.now in
    let before = codes "[\"import\",\"no\",\"order\"," in
    let facts = compact_text (array (items_of (map (settled_data h) x.facts.items))) in
    let steps = compact_text (steps_data h x.last.items) in
    let settled : c.put_all_settled.new.out.items ≡ c.extend_from_slice.new.self.items ++ facts =
    c.in_ok-put_all_settled.ensures ∙ ap (λ xs. c.extend_from_slice.new.self.items
    ++ compact_text (array (items_of (map (settled_data h) xs)))) c.as_slice.ensures.value in
    let told : c.put_steps.new.out.items ≡ c.extend_from_slice-2.new.self.items ++ steps =
    c.in_ok-put_steps.ensures ∙ ap (λ xs. c.extend_from_slice-2.new.self.items
    ++ compact_text (steps_data h xs)) c.as_slice-2.ensures.value in
    if_ok c.extend_from_slice-3.result _ _ _ c.extend_from_slice-3.ensures.items (λ e. e
    ∙ join_two old (before ++ facts) (44 ∷ steps) (93 ∷ 10 ∷ [])
    (after old before facts c.in_ok-extend_from_slice.ensures.items settled)
    (after c.put_all_settled.new.out.items (44 ∷ []) steps c.in_ok-extend_from_slice-2.ensures.items told)
    ∙ ap (λ t. old ++ (before ++ t)) (pair_end facts steps)
    ∙ ap (λ q. old ++ line_text (answer_words (codes "no") (told_items h x q)))
    (sym (empty_so x.lemmas.items c.requires)))
