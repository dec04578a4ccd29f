use Rattle.std.proofs.Common.{Some, None, Option, refl, sym, ap, subst, ◌∙◌}
use Rattle.tx_core.specs.declared.event.Event.TheVariants.{Stopped}
use Rattle.tx_core.specs.declared.event.Outcome.{Outcome}
use Rattle.tx_client.specs.Calls.{Records, Seated}
use Rattle.tx_transfer.specs.SeedLines.{is_committed}
use Rattle.tx_transfer.specs.Steps.{EndsBy}
use Rattle.tx_transfer.proofs.SeedWrites.{committed_seeds}
use Rattle.tx_transfer.proofs.seeds.end.Goals as goal

pub returns-in-Ok-clause-ends : goal.returns-in-Ok-clause-ends
returns-in-Ok-clause-ends g c =
    let ended = c.in-Ok.ensures.ended in
    subst (λ (o : Option Outcome). EndsBy g.J.JournalId.bounds c.args.session o c.in-Ok.seat) (sym ended.0) ended.1

pub returns-in-Ok-clause-says : goal.returns-in-Ok-clause-says
returns-in-Ok-clause-says g c = c.is_committed.ensures ∙ ap is_committed (sym c.in-Ok.ensures.ended.0)

pub returns-in-Ok-clause-wrote : goal.returns-in-Ok-clause-wrote
returns-in-Ok-clause-wrote g c =
    let s = c.args.session in
    λ is key value just.
    committed_seeds g.J.JournalId.bounds key value s.state s.seat c.in-Ok.seat c.in-Ok.outcome
    (sym c.is_committed.ensures ∙ is) just c.show.ensures.stands c.in-Ok.ensures.ended.1

pub returns-in-Err-clause-ends : goal.returns-in-Err-clause-ends
returns-in-Err-clause-ends g c =
    let bounds = g.J.JournalId.bounds in
    let s = c.args.session in
    let none = c.in-Err.ensures.open_yet in
    subst (λ (o : Option Outcome). EndsBy bounds s o c.stop.result) (sym none.0)
    (subst (λ (t : Seated). Records bounds t.seat (Stopped t.seat.seat) c.stop.result) none.1 c.stop.ensures)

pub returns-in-Err-clause-says : goal.returns-in-Err-clause-says
returns-in-Err-clause-says g c = ap is_committed (sym c.in-Err.ensures.open_yet.0)
