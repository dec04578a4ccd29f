use Rattle.std.proofs.Common.{◌++◌, codes, ◌∷◌, [], ◌∙◌}
use Rattle.json.specs.Print.{escape_byte}
use Rattle.serde_json.specs.Written.{compact_text}
use Rattle.tx_text.proofs.Texts.{if_ok}
use Rattle.tx_check.proofs.Joins.{join_four}
use Rattle.tx_verdict_text.specs.Words.{id_data, key_data, known_value, known_id}
use Rattle.tx_verdict_text.proofs.Lines.{after}
use Rattle.tx_verdict_text.proofs.line.put_fact.Goals as goal

pub returns : goal.returns
unfolding escape_byte
returns c =
    let old = c.args.out.now.items in
    let history = c.args.history.now in
    let fact = c.args.fact in
    let txn = compact_text (id_data history fact.txn) in
    let key = compact_text (key_data history fact.key) in
    let value = compact_text (known_value history fact.value) in
    let by = compact_text (known_id history fact.by) in
    if_ok c.extend_from_slice-5.result _ _ _ c.extend_from_slice-5.ensures.items (λ e. e
    ∙ join_four old (codes "{\"txn\":" ++ txn) (codes ",\"key\":" ++ key) (codes ",\"value\":" ++ value)
    (codes ",\"by\":" ++ by) (125 ∷ [])
    (after old (codes "{\"txn\":") txn c.in_ok-extend_from_slice.ensures.items c.in_ok-put_id.ensures)
    (after c.put_id.new.out.items (codes ",\"key\":") key c.in_ok-extend_from_slice-2.ensures.items
    c.in_ok-put_key.ensures)
    (after c.put_key.new.out.items (codes ",\"value\":") value c.in_ok-extend_from_slice-3.ensures.items
    c.in_ok-put_known_value.ensures)
    (after c.put_known_value.new.out.items (codes ",\"by\":") by c.in_ok-extend_from_slice-4.ensures.items
    c.in_ok-put_known_id.ensures))
