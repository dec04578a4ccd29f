use Rattle.std.proofs.Common.{sym, subst}
use Rattle.tx_transaction.specs.Heads.{IsSettled}
use Rattle.tx_transaction.specs.Sessions.{marked_by, sent_by}
use Rattle.tx_transaction.proofs.Parts.{noted, noted_as}
use Rattle.tx_transaction.proofs.key_table.TableParts.mark.Goals as goal

pub returns-in-Some-clause-entries : goal.returns-in-Some-clause-entries
returns-in-Some-clause-entries c =
    let es = c.args.self.now.entries.entries in
    noted_as (λ p. marked_by c.args.phase c.args.answer.now (sent_by c.args.phase p)) es c.args.i c.in-Some.entry.now
    c.mark.new.progress c.in-Some.ensures.value c.mark.ensures

pub returns-in-Some-clause-settled : goal.returns-in-Some-clause-settled
returns-in-Some-clause-settled c settled =
    let es = c.args.self.now.entries.entries in
    subst (IsSettled c.after-self.result)
    (sym (noted es c.args.i c.in-Some.entry.now c.mark.new.progress c.in-Some.ensures.value))
    (c.after-self.ensures es c.requires settled)
