use Rattle.std.proofs.Common.{◌≡◌, ◌++◌, codes, ◌∷◌, [], map, ap, ◌∙◌}
use Rattle.json.specs.Print.{escape_byte}
use Rattle.serde_json.specs.Data.{array, string}
use Rattle.serde_json.specs.View.{items_of}
use Rattle.serde_json.specs.Written.{compact_text}
use Rattle.tx_text.proofs.Texts.{if_ok}
use Rattle.tx_check.proofs.Joins.{join_two}
use Rattle.tx_verdict_text.specs.Words.{cycle_word, step_data}
use Rattle.tx_verdict_text.proofs.Lines.{after, pair_end}
use Rattle.tx_verdict_text.proofs.line.put_cycle.Goals as goal

pub returns : goal.returns
unfolding escape_byte
returns c =
    let old = c.args.out.now.items in
    let cycle = c.args.cycle.now in
    let before = codes "[\"import\",\"no\"," in
    let name = compact_text (string (cycle_word cycle)) in
    let steps = compact_text (array (items_of (map (step_data c.args.history.now) cycle.steps.items))) in
    let told : c.put_steps.new.out.items ≡ c.extend_from_slice-2.new.self.items ++ steps =
    c.in_ok-put_steps.ensures ∙ ap (λ xs. c.extend_from_slice-2.new.self.items
    ++ compact_text (array (items_of (map (step_data c.args.history.now) xs)))) c.as_slice.ensures.value in
    if_ok c.extend_from_slice-3.result _ _ _ c.extend_from_slice-3.ensures.items (λ e. e
    ∙ join_two old (before ++ name) (44 ∷ steps) (93 ∷ 10 ∷ [])
    (after old before name c.in_ok-extend_from_slice.ensures.items c.in_ok-put_anomaly.ensures)
    (after c.put_anomaly.new.out.items (44 ∷ []) steps c.in_ok-extend_from_slice-2.ensures.items told)
    ∙ ap (λ t. old ++ (before ++ t)) (pair_end name steps))
