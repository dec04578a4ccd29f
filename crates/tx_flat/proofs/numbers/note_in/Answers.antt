use Rattle.std.proofs.Common.{◌∙◌}
use Rattle.tx_cells.specs.Numbers.{noted}
use Rattle.tx_cells.proofs.Facts.{if_ok, on_ok, on_err}
use Rattle.tx_flat.proofs.FlatNumbers.{same_numbers}
use Rattle.tx_flat.proofs.numbers.note_in.Goals as goal

pub returns-in-None-clause-noted : goal.returns-in-None-clause-noted
returns-in-None-clause-noted c =
    let stayed = same_numbers c.note_over.new.numbers c.args.numbers.now c.in-None.ensures.same in
    on_ok c.note_first.result _ _ (λ is k. is k
    ∙ (λ i. noted (stayed i) c.args.key.now c.args.number k)) c.note_first.ensures.noted

pub returns-in-None-clause-before : goal.returns-in-None-clause-before
returns-in-None-clause-before c =
    let stayed = same_numbers c.note_over.new.numbers c.args.numbers.now c.in-None.ensures.same in
    if_ok c.note_first.result _ _ (λ x is. is ∙ (λ i. stayed i c.args.key.now)) c.note_first.ensures.before

pub returns-in-None-clause-same : goal.returns-in-None-clause-same
returns-in-None-clause-same c =
    let stayed = same_numbers c.note_over.new.numbers c.args.numbers.now c.in-None.ensures.same in
    on_err c.note_first.result _ _ (λ is k. is k ∙ (λ i. stayed i k)) c.note_first.ensures.same
