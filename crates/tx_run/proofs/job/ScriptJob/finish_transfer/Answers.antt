use Rattle.std.proofs.Common.{refl, sym, ap, ◌∙◌}
use Rattle.tx_transfer.specs.declared.progress.TransferProgress.TheVariants as progress
use Rattle.tx_run.specs.Jobs.{Working}
use Rattle.tx_run.proofs.AnsweredLines.{none_moves}
use Rattle.tx_run.proofs.Leads.{ended_at}
use Rattle.tx_run.proofs.job.ScriptJob.finish_transfer.Goals as goal

pub returns-in-More-clause-ends : goal.returns-in-More-clause-ends
returns-in-More-clause-ends g c m is more = absurd (more c.in-More.is)

pub returns-in-Over-clause-ends : goal.returns-in-Over-clause-ends
returns-in-Over-clause-ends g c m is more =
    let new = c.end_transfer.new.self in
    ended_at g.J.JournalId.bounds c.in-Transfer.transfer.value c.into_inner.result m c.args.progress progress.Over
    c.args.self.now.log c.take_state.new.self.log new.log new.stands
    ((rw c.in-Transfer.is at c.take_state.ensures.entered) ∙ is) c.into_inner.ensures c.in-Over.is
    (ap (λ (w : Working). w.log) c.take_state.ensures.taken) c.end_transfer.ensures.told

pub returns-in-Spent-clause-ends : goal.returns-in-Spent-clause-ends
returns-in-Spent-clause-ends g c m is more =
    let new = c.give_up_boxed.new.self in
    let it = c.in-Transfer.transfer.value in
    ended_at g.J.JournalId.bounds it it m c.args.progress progress.Spent c.args.self.now.log
    c.take_state.new.self.log new.log new.stands ((rw c.in-Transfer.is at c.take_state.ensures.entered) ∙ is) refl
    c.in-Spent.is (ap (λ (w : Working). w.log) c.take_state.ensures.taken)
    (c.give_up_boxed.ensures.told progress.Spent c.new.ensures)

pub returns-in-OutOfMemory-clause-ends : goal.returns-in-OutOfMemory-clause-ends
returns-in-OutOfMemory-clause-ends g c m is more =
    let new = c.give_up_boxed-in-OutOfMemory.new.self in
    let it = c.in-Transfer.transfer.value in
    ended_at g.J.JournalId.bounds it it m c.args.progress progress.OutOfMemory c.args.self.now.log
    c.take_state.new.self.log new.log new.stands ((rw c.in-Transfer.is at c.take_state.ensures.entered) ∙ is) refl
    c.in-OutOfMemory.is (ap (λ (w : Working). w.log) c.take_state.ensures.taken)
    (c.give_up_boxed-in-OutOfMemory.ensures.told progress.OutOfMemory c.new-in-OutOfMemory.ensures)

pub returns-in_default-clause-ends : goal.returns-in_default-clause-ends
returns-in_default-clause-ends g c m is more =
    absurd (none_moves c.take_state.result _ _ m c.in_default.not-Transfer (sym (c.take_state.ensures.entered ∙ is)))
