use Rattle.std.proofs.Common.{sym, subst}
use Rattle.tx_plan.specs.declared.answer.Answer.{Answer}
use Rattle.tx_plan.specs.declared.body.Body.{Body}
use Rattle.tx_core.specs.declared.event.Event.TheVariants.{Took}
use Rattle.tx_core.specs.Histories.{History}
use Rattle.tx_journal.specs.Known.{HasRecorded}
use Rattle.tx_region.proofs.TakenRequests.{given_by}
use Rattle.tx_region.proofs.region.events.note_done.Goals as goal

pub returns-clause-given : goal.returns-clause-given
returns-clause-given g c =
    let bounds = g.J.JournalId.bounds in
    let old = c.args.seat.now in
    let a = c.args.done.answer in
    let q = c.args.request.now in
    let added = subst (λ (x : Body × Answer). HasRecorded bounds old.seat old.events
    (Took record { region = old.seat; body = x.0; loaded = c.args.loaded; answer = x.1 })
    c.record_taken.new.seat.events) (λ j. (c.body.ensures.body j, c.answer.ensures j))
    c.record_taken.ensures.added in
    given_by bounds old.seat old.events c.args.loaded q a c.tell.result c.requires.knows
    (subst (λ (h : History). HasRecorded bounds old.seat old.events
    (Took record { region = old.seat; body = q.body; loaded = c.args.loaded; answer = a }) h)
    (sym c.tell.ensures.told) added)
