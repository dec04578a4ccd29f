use Rattle.std.specs.Prelude.{false}
use Rattle.tx_client.proofs.Sends.{sent_then}
use Rattle.tx_resolve.specs.Resolution.{primary_walk, after_primary}
use Rattle.tx_resolve.proofs.resolver.resolve_for.Goals as goal

pub returns-clause-sends : goal.returns-clause-sends
returns-clause-sends g c =
    sent_then g.S.Sender.sends g.J.JournalId.bounds (primary_walk c.args.met.now c.args.who.now false)
    (after_primary c.args.met.now c.args.who.now) c.args.seat.now c.ask_primary-primary.new.seat
    c.after_primary.new.seat c.args.sender.now c.ask_primary-primary.new.sender c.after_primary.new.sender
    c.ask_primary-primary.result c.after_primary.result c.ask_primary-primary.ensures.sends
    c.after_primary.ensures.sends
