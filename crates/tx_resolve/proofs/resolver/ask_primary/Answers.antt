use Rattle.std.proofs.Common.{sym, subst}
use Rattle.tx_plan.specs.declared.body.Body.{Body}
use Rattle.tx_core.specs.Allowed.{Allowed}
use Rattle.tx_journal.specs.Senders.{IsHeld}
use Rattle.tx_client.specs.Facts.{RespondsSo}
use Rattle.tx_client.proofs.Calls.{held_at}
use Rattle.tx_resolve.specs.Resolution.{check_of}
use Rattle.tx_resolve.specs.Facts.{IsPrimary}
use Rattle.tx_resolve.proofs.Knowledge.{knows_on, asked_more}
use Rattle.tx_resolve.proofs.AllowedRequests.{check_allowed}
use Rattle.tx_resolve.proofs.ResolverAnswers.{primary_ok}
use Rattle.tx_resolve.proofs.resolver.ask_primary.Goals as goal

pub ask-requires-clause-held : goal.ask-requires-clause-held
ask-requires-clause-held g c =
    subst (λ (b : Body). IsHeld g.J.JournalId.bounds b) (sym c.in-Ok.ensures.ok) (held_at g.J.JournalId.bounds _)

pub ask-requires-clause-allowed : goal.ask-requires-clause-allowed
ask-requires-clause-allowed g c =
    subst (λ (b : Body). Allowed c.args.seat.now.events b) (sym c.in-Ok.ensures.ok)
    (check_allowed g.J.JournalId.bounds c.args.seat.now.events c.args.met.now c.args.who.now c.args.forced
    c.requires.knows c.requires.two_phase)

pub returns-clause-knows : goal.returns-clause-knows
returns-clause-knows g c =
    let more = asked_more g.S.Sender.sends g.J.JournalId.bounds c.args.seat.now c.ask.new.seat c.args.sender.now
    c.ask.new.sender c.in-Ok.body c.ask.result c.requires.knows.run c.ask.ensures.asked in
    knows_on g.J.JournalId.bounds c.args.seat.now.events c.ask.new.seat.events c.args.met.now c.requires.knows more.0
    more.1

pub returns-clause-found : goal.returns-clause-found
returns-clause-found g c =
    let more = asked_more g.S.Sender.sends g.J.JournalId.bounds c.args.seat.now c.ask.new.seat c.args.sender.now
    c.ask.new.sender c.in-Ok.body c.ask.result c.requires.knows.run c.ask.ensures.asked in
    let knows = knows_on g.J.JournalId.bounds c.args.seat.now.events c.ask.new.seat.events c.args.met.now
    c.requires.knows more.0 more.1 in
    let response : RespondsSo c.ask.new.seat.events (check_of c.args.met.now c.args.who.now c.args.forced) c.ask.result
    = subst (λ (b : Body). RespondsSo c.ask.new.seat.events b c.ask.result) c.in-Ok.ensures.ok c.ask.ensures.told in
    subst (IsPrimary c.ask.new.seat.events c.args.met.now.start) (sym c.primary_by.ensures)
    (primary_ok g.J.JournalId.bounds c.ask.new.seat.events more.0 c.args.met.now knows c.args.who.now c.args.forced
    c.ask.result response)
