use Rattle.std.proofs.Common.{sym, subst}
use Rattle.tx_core.specs.declared.event.Event.TheVariants.{Began}
use Rattle.tx_core.specs.Recording.{MayRecord}
use Rattle.tx_journal.proofs.Calls.{may_begin_there}
use Rattle.tx_transaction.specs.Sessions.{SessionState}
use Rattle.tx_client.specs.Facts.{IsSeated}
use Rattle.tx_client.specs.Order.{IsDrawnAfter}
use Rattle.tx_client.proofs.Calls.{began_seated}
use Rattle.tx_client.proofs.Ordered.{began_drawn_after}
use Rattle.tx_client.proofs.session.Session.begin.Goals as goal

pub record_began-requires : goal.record_began-requires
record_began-requires g c =
    let bounds = g.J.JournalId.bounds in
    subst (λ n. MayRecord bounds n c.draw.new.self.events (Began c.in-Ok.start)) (sym c.draw.ensures.seat)
    (may_begin_there bounds c.args.seat.seat c.args.seat.events c.draw.new.self.events 1 c.in-Ok.start
    c.in-Ok.ensures.drawn)

pub invariant_of-result : goal.invariant_of-result
invariant_of-result g c =
    subst (λ (z : SessionState). IsSeated g.J.JournalId.bounds c.record_began.new.seat z) (sym c.begin.ensures)
    (began_seated g.J.JournalId.bounds c.args.seat
    c.draw.new.self c.record_began.new.seat c.in-Ok.start c.draw.ensures.seat c.in-Ok.ensures.drawn
    c.record_began.ensures)

pub returns-clause-after_known : goal.returns-clause-after_known
returns-clause-after_known g c =
    subst (λ (z : SessionState). IsDrawnAfter c.args.seat.events c.record_began.new.seat.events z.start)
    (sym c.begin.ensures)
    (began_drawn_after g.J.JournalId.bounds c.args.seat
    c.draw.new.self c.record_began.new.seat c.in-Ok.start c.draw.ensures.seat c.in-Ok.ensures.drawn
    c.record_began.ensures)
