use Rattle.std.proofs.Common.{◌∷◌, [], ◌∙◌}
use Rattle.serde_json.specs.Written.{compact_text}
use Rattle.tx_text.proofs.Texts.{if_ok}
use Rattle.tx_check.proofs.Joins.{join_three}
use Rattle.tx_verdict_text.specs.Words.{clause_data, hints_data, steps_data}
use Rattle.tx_verdict_text.proofs.Lines.{after}
use Rattle.tx_verdict_text.proofs.refutation.put_lemma.Goals as goal

pub returns : goal.returns
returns c =
    let old = c.args.out.now.items in
    let history = c.args.history.now in
    let lemma = c.args.lemma.now in
    let clause = compact_text (clause_data history lemma.clause.items) in
    let hints = compact_text (hints_data history lemma.hints.items) in
    let round = compact_text (steps_data history lemma.round.items) in
    if_ok c.extend_from_slice-4.result _ _ _ c.extend_from_slice-4.ensures.items (λ e. e
    ∙ join_three old (91 ∷ clause) (44 ∷ hints) (44 ∷ round) (93 ∷ [])
    (after old (91 ∷ []) clause c.in_ok-extend_from_slice.ensures.items c.in_ok-put_clause.ensures)
    (after c.put_clause.new.out.items (44 ∷ []) hints c.in_ok-extend_from_slice-2.ensures.items
    c.in_ok-put_list.ensures)
    (after c.put_list.new.out.items (44 ∷ []) round c.in_ok-extend_from_slice-3.ensures.items
    c.in_ok-put_round.ensures))
