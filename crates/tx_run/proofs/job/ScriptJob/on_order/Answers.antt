use Rattle.std.proofs.Common.{Err, sym, ap, ◌∙◌}
use Rattle.tx_types.specs.declared.fault.Cause.TheVariants.{Order}
use Rattle.tx_steps.specs.declared.transfer.Transfer.{Transfer}
use Rattle.tx_steps.specs.Steps.{Text}
use Rattle.tx_workload.specs.declared.reply.LineAnswer.TheVariants.{Plain}
use Rattle.tx_run.specs.Jobs.{Working}
use Rattle.tx_run.specs.Played.{at, free, live}
use Rattle.tx_run.proofs.Leads.{leads_order, leads_taken, says_transfer}
use Rattle.tx_run.proofs.Played.{kept_told, same_standing}
use Rattle.tx_run.proofs.job.ScriptJob.on_order.Goals as goal

pub returns-in-Free-clause-plays : goal.returns-in-Free-clause-plays
returns-in-Free-clause-plays g c known from is =
    let seat = c.in-Free.seat in
    let new = c.start_transfer.new.self in
    let here = same_standing _ (free seat) from (rw c.in-Free.is at c.take_state.ensures.entered) is in
    leads_taken g.J.JournalId.bounds g.L.Source.text (free seat) from c.args.self.now.log c.take_state.new.self.log
    new.log new.stands here (ap (λ (w : Working). w.log) c.take_state.ensures.taken)
    (c.start_transfer.ensures.plays known)

pub returns-in-Live-clause-plays : goal.returns-in-Live-clause-plays
returns-in-Live-clause-plays g c known from is =
    let source = g.L.Source.text in
    let order = c.args.order in
    let s = c.in-Live.session.value in
    let old = c.args.self.now.log in
    let new = c.fail.new.self in
    let here = same_standing _ (live s) from (rw c.in-Live.is at c.take_state.ensures.entered) is in
    let log = ap (λ (w : Working). w.log) c.set_state.ensures
    ∙ ap (λ (w : Working). w.log) c.take_state.ensures.taken in
    let what : Transfer Text =
    record { from = order.from; to = order.to; amount = order.amount; mode = order.mode } in
    leads_order g.J.JournalId.bounds source from what order.number old new.log new.stands
    (says_transfer source order.number what order.said known) s (sym here)
    (c.fail.ensures.stands ∙ ap (λ (w : Working). w.stands) c.set_state.ensures ∙ ap at here)
    (kept_told old c.set_state.new.self.log new.log order.number (Plain (Err Order)) (ap (λ l. l.lost) log)
    (ap (λ l. l.replies) log) c.fail.ensures.kept)
