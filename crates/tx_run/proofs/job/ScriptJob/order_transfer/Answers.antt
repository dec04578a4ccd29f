use Rattle.std.proofs.Common.{inl, inr, Ok, refl, ap, ◌∙◌}
use Rattle.tx_steps.specs.Steps.{moved}
use Rattle.tx_transfer.specs.Replies.{reply_of}
use Rattle.tx_workload.specs.declared.reply.LineAnswer.TheVariants.{Plain}
use Rattle.tx_run.specs.Jobs.{Working}
use Rattle.tx_run.specs.Transfers.{IsNotBegun}
use Rattle.tx_run.proofs.Leads.{leads_told, says_transfer}
use Rattle.tx_run.proofs.Played.{kept_told}
use Rattle.tx_run.proofs.job.ScriptJob.order_transfer.Goals as goal

pub returns-in-Err-clause-plays : goal.returns-in-Err-clause-plays
returns-in-Err-clause-plays g c known =
    let source = g.L.Source.text in
    let number = c.args.number in
    let what = moved c.args.transfer in
    let old = c.args.self.now.log in
    let new = c.report_refusal.new.self in
    let plain = c.refused.result in
    let told : IsNotBegun what c.args.seat plain.reply = elim c.in-Err.ensures.err [
      | inl e ↦ inl (c.refused.ensures ∙ ap reply_of e)
      | inr e ↦ inr (inl (c.refused.ensures ∙ ap reply_of e.0, e.1))
    ] in
    leads_told g.J.JournalId.bounds source c.args.seat what number (Plain (Ok plain)) c.args.seat old new.log new.stands
    (says_transfer source number what c.requires.said known)
    (c.report_refusal.ensures.stands ∙ ap (λ (w : Working). w.stands) c.set_state.ensures)
    (kept_told old c.set_state.new.self.log new.log number (Plain (Ok plain))
    (ap (λ (w : Working). w.log.lost) c.set_state.ensures)
    (ap (λ (w : Working). w.log.replies) c.set_state.ensures) c.report_refusal.ensures.answered)
    (inl (plain, refl, told, refl))
