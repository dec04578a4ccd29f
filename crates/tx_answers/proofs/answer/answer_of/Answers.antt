use Rattle.std.proofs.Common.{inl}
use Rattle.tx_text.specs.Lines.{lines_of}
use Rattle.tx_import.specs.Histories.{IsHistoryOf, IsFaultOf}
use Rattle.tx_answers.proofs.Known.{if_so, if_known, one_ok}
use Rattle.tx_answers.proofs.answer.answer_of.Goals as goal

pub returns-in-Ok : goal.returns-in-Ok
returns-in-Ok g c =
    let bytes = g.R.Read.remaining c.args.reader.now in
    let read = one_ok (λ input history. IsHistoryOf (lines_of input) history)
    (λ input fault. IsFaultOf (lines_of input) fault) bytes c.in_ok-history.field-0 c.in-Ok.history c.in-Ok.is
    c.in_ok-history.ensures.read in
    if_so c.heard.result c.heard.ensures
    (λ answer said. if_known bytes (λ input is. inl (c.in-Ok.history, is, said)) read)
