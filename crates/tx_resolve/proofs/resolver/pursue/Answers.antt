use Rattle.tx_client.proofs.Sends.{sent_then}
use Rattle.tx_resolve.specs.Resolution.{others_walk, after_others}
use Rattle.tx_resolve.proofs.resolver.pursue.Goals as goal

pub returns-clause-sends : goal.returns-clause-sends
returns-clause-sends g c =
    sent_then g.S.Sender.sends g.J.JournalId.bounds
    (others_walk c.args.met.now.start c.args.primary.now.secondaries c.args.primary.now.min)
    (after_others c.args.met.now c.args.who.now) c.args.seat.now c.ask_others-others.new.seat c.after_others.new.seat
    c.args.sender.now c.ask_others-others.new.sender c.after_others.new.sender c.ask_others-others.result
    c.after_others.result c.ask_others-others.ensures.sends c.after_others.ensures.sends
