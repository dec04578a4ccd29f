use Rattle.std.proofs.Common.{◌+◌, ◌∷◌, [], ◌∙◌}
use Rattle.serde_json.specs.Data.{number, unsigned}
use Rattle.serde_json.specs.Written.{compact_text}
use Rattle.tx_text.proofs.Texts.{if_ok}
use Rattle.tx_check.proofs.Joins.{join_two}
use Rattle.tx_verdict_text.specs.Words.{order_data}
use Rattle.tx_verdict_text.proofs.Lines.{after}
use Rattle.tx_verdict_text.proofs.refutation.put_hint.Goals as goal

pub returns : goal.returns
returns c =
    let old = c.args.out.now.items in
    let history = c.args.history.now in
    let hint = c.args.hint in
    let place = compact_text (number (unsigned (hint.lemma + 1))) in
    let order = compact_text (order_data history hint.order) in
    if_ok c.extend_from_slice-3.result _ _ _ c.extend_from_slice-3.ensures.items (λ e. e
    ∙ join_two old (91 ∷ place) (44 ∷ order) (93 ∷ [])
    (after old (91 ∷ []) place c.in_ok-extend_from_slice.ensures.items c.in_ok-put_number.ensures)
    (after c.put_number.new.out.items (44 ∷ []) order c.in_ok-extend_from_slice-2.ensures.items
    c.in_ok-put_order.ensures))
