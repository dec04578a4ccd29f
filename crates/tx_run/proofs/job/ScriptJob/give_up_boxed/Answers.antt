use Rattle.std.proofs.Common.{sym, subst}
use Rattle.tx_transfer.specs.TransferSteps.{Moving}
use Rattle.tx_run.specs.Jobs.{JobGoesOn, with_line}
use Rattle.tx_run.specs.Played.{EndsTransfer}
use Rattle.tx_run.specs.Transfers.{IsGivenUp}
use Rattle.tx_run.proofs.job.ScriptJob.give_up_boxed.Goals as goal

pub returns-clause-goes : goal.returns-clause-goes
returns-clause-goes g c =
    subst (λ (m : Moving). JobGoesOn (with_line m.number c.args.self.now) c.give_up.new.self) c.into_inner.ensures
    c.give_up.ensures.goes

pub returns-clause-told : goal.returns-clause-told
returns-clause-told g c p given =
    let new = c.give_up.new.self in
    subst (λ (m : Moving). EndsTransfer g.J.JournalId.bounds m p c.args.self.now.log new.log new.stands)
    c.into_inner.ensures
    (c.give_up.ensures.told p
    (subst (λ (m : Moving). IsGivenUp m p c.args.plain.reply) (sym c.into_inner.ensures) given))
