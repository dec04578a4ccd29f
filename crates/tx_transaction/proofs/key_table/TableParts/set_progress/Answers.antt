use Rattle.std.proofs.Common.{sym, subst}
use Rattle.tx_transaction.specs.Heads.{IsSettled}
use Rattle.tx_transaction.proofs.Parts.{noted}
use Rattle.tx_transaction.proofs.key_table.TableParts.set_progress.Goals as goal

pub returns-in-Some-clause-entries : goal.returns-in-Some-clause-entries
returns-in-Some-clause-entries c =
    let es = c.args.self.now.entries.entries in
    noted es c.args.i c.in-Some.entry.now c.args.progress c.in-Some.ensures.value

pub returns-in-Some-clause-settled : goal.returns-in-Some-clause-settled
returns-in-Some-clause-settled c settled =
    let es = c.args.self.now.entries.entries in
    subst (IsSettled c.after-self.result)
    (sym (noted es c.args.i c.in-Some.entry.now c.args.progress c.in-Some.ensures.value))
    (c.after-self.ensures es c.requires settled)
