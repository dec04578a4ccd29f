use Rattle.std.proofs.Common.{inl, inr, Ok, refl, ap, ◌∙◌}
use Rattle.tx_journal.specs.Known.{Known}
use Rattle.tx_steps.specs.declared.transfer.Transfer.{Transfer}
use Rattle.tx_steps.specs.Steps.{Text}
use Rattle.tx_workload.specs.declared.reply.LineAnswer.TheVariants.{Plain}
use Rattle.tx_run.specs.Jobs.{Working}
use Rattle.tx_run.specs.Played.{at, free}
use Rattle.tx_run.proofs.Leads.{leads_told, says_transfer}
use Rattle.tx_run.proofs.Played.{kept_told}
use Rattle.tx_run.proofs.job.ScriptJob.start_transfer.Goals as goal

pub returns-in-Ok-clause-plays : goal.returns-in-Ok-clause-plays
returns-in-Ok-clause-plays g c known = c.on_session.ensures.plays known c.args.seat c.in-Ok.ensures.ok

pub returns-in-Err-clause-plays : goal.returns-in-Err-clause-plays
returns-in-Err-clause-plays g c known =
    let source = g.L.Source.text in
    let order = c.args.order in
    let what : Transfer Text =
    record { from = order.from; to = order.to; amount = order.amount; mode = order.mode } in
    let old = c.args.self.now.log in
    let new = c.report_refusal.new.self in
    leads_told g.J.JournalId.bounds source c.args.seat what order.number (Plain (Ok c.new.result)) c.args.seat old
    new.log new.stands (says_transfer source order.number what order.said known)
    (c.report_refusal.ensures.stands ∙ ap (λ (w : Working). w.stands) c.set_state.ensures
    ∙ ap (λ (k : Known). at (free k)) c.in-Err.ensures.spent.0)
    (kept_told old c.set_state.new.self.log new.log order.number (Plain (Ok c.new.result))
    (ap (λ (w : Working). w.log.lost) c.set_state.ensures) (ap (λ (w : Working). w.log.replies) c.set_state.ensures)
    c.report_refusal.ensures.answered)
    (inl (c.new.result, refl, inr (inr (c.new.ensures, c.in-Err.ensures.spent.1)), refl))
