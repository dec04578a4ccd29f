use Rattle.std.proofs.Common.{sym, subst}
use Rattle.tx_plan.specs.declared.body.Body.{Body}
use Rattle.tx_core.specs.Allowed.{Allowed}
use Rattle.tx_core.proofs.seats.StaysDecided.{decided_on}
use Rattle.tx_journal.specs.Senders.{IsHeld}
use Rattle.tx_client.specs.Statuses.{Ends}
use Rattle.tx_client.proofs.Calls.{held_at}
use Rattle.tx_resolve.proofs.Knowledge.{asked_more}
use Rattle.tx_resolve.proofs.AllowedRequests.{settle_allowed}
use Rattle.tx_resolve.proofs.ResolverAnswers.{settled_ok}
use Rattle.tx_resolve.proofs.resolver.settle.Goals as goal

pub ask-requires-clause-held : goal.ask-requires-clause-held
ask-requires-clause-held g c =
    subst (λ (b : Body). IsHeld g.J.JournalId.bounds b) (sym c.in-Ok.ensures.ok) (held_at g.J.JournalId.bounds _)

pub ask-requires-clause-allowed : goal.ask-requires-clause-allowed
ask-requires-clause-allowed g c =
    subst (λ (b : Body). Allowed c.args.seat.now.events b) (sym c.in-Ok.ensures.ok)
    (settle_allowed g.J.JournalId.bounds c.args.seat.now.events c.args.met.now c.args.fate.now c.requires.knows
    c.requires.decided)

pub returns-clause-ends : goal.returns-clause-ends
returns-clause-ends g c =
    let more = asked_more g.S.Sender.sends g.J.JournalId.bounds c.args.seat.now c.ask.new.seat c.args.sender.now
    c.ask.new.sender c.in-Ok.body c.ask.result c.requires.knows.run c.ask.ensures.asked in
    let still = decided_on c.args.seat.now.events c.ask.new.seat.events more.1 c.args.met.now.start c.args.fate.now
    c.requires.decided in
    subst (Ends c.ask.new.seat.events c.args.met.now.start) (sym c.settled_by.ensures)
    (settled_ok c.ask.new.seat.events c.args.met.now.start c.args.fate.now c.ask.result still)
