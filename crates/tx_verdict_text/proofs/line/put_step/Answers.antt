use Rattle.std.proofs.Common.{◌∷◌, [], ◌∙◌}
use Rattle.serde_json.specs.Data.{string}
use Rattle.serde_json.specs.Written.{compact_text}
use Rattle.tx_text.proofs.Texts.{if_ok}
use Rattle.tx_check.proofs.Joins.{join_four}
use Rattle.tx_verdict_text.specs.Words.{edge_word, id_data, known_key}
use Rattle.tx_verdict_text.proofs.Lines.{after}
use Rattle.tx_verdict_text.proofs.line.put_step.Goals as goal

pub returns : goal.returns
returns c =
    let old = c.args.out.now.items in
    let history = c.args.history.now in
    let step = c.args.step.now in
    let from = compact_text (id_data history step.from) in
    let edge = compact_text (string (edge_word step.edge)) in
    let key = compact_text (known_key history step.key) in
    let to = compact_text (id_data history step.to) in
    if_ok c.extend_from_slice-5.result _ _ _ c.extend_from_slice-5.ensures.items (λ e. e
    ∙ join_four old (91 ∷ from) (44 ∷ edge) (44 ∷ key) (44 ∷ to) (93 ∷ [])
    (after old (91 ∷ []) from c.in_ok-extend_from_slice.ensures.items c.in_ok-put_id.ensures)
    (after c.put_id.new.out.items (44 ∷ []) edge c.in_ok-extend_from_slice-2.ensures.items c.in_ok-put_edge.ensures)
    (after c.put_edge.new.out.items (44 ∷ []) key c.in_ok-extend_from_slice-3.ensures.items
    c.in_ok-put_known_key.ensures)
    (after c.put_known_key.new.out.items (44 ∷ []) to c.in_ok-extend_from_slice-4.ensures.items
    c.in_ok-put_id-2.ensures))
