use Rattle.std.proofs.Common.{◌∷◌, [], ◌∙◌}
use Rattle.serde_json.specs.Written.{compact_text}
use Rattle.tx_text.proofs.Texts.{if_ok}
use Rattle.tx_check.proofs.Joins.{join_three}
use Rattle.tx_verdict_text.specs.Words.{id_data, key_data}
use Rattle.tx_verdict_text.proofs.Lines.{after}
use Rattle.tx_verdict_text.proofs.refutation.put_order.Goals as goal

pub returns : goal.returns
returns c =
    let old = c.args.out.now.items in
    let history = c.args.history.now in
    let order = c.args.order in
    let key = compact_text (key_data history order.key) in
    let first = compact_text (id_data history order.first) in
    let second = compact_text (id_data history order.second) in
    if_ok c.extend_from_slice-4.result _ _ _ c.extend_from_slice-4.ensures.items (λ e. e
    ∙ join_three old (91 ∷ key) (44 ∷ first) (44 ∷ second) (93 ∷ [])
    (after old (91 ∷ []) key c.in_ok-extend_from_slice.ensures.items c.in_ok-put_key.ensures)
    (after c.put_key.new.out.items (44 ∷ []) first c.in_ok-extend_from_slice-2.ensures.items c.in_ok-put_id.ensures)
    (after c.put_id.new.out.items (44 ∷ []) second c.in_ok-extend_from_slice-3.ensures.items
    c.in_ok-put_id-2.ensures))
