use Rattle.tx_client.proofs.Calls.{asked_seated}
use Rattle.tx_client.proofs.session.Session.ask.Goals as goal

pub invariant_of-self : goal.invariant_of-self
invariant_of-self g c = asked_seated g.S.Sender.sends g.J.JournalId.bounds c.self.inside.seat c.ask_with_lock.new.seat
    c.self.inside.transaction c.args.body c.args.sender.now c.ask_with_lock.new.sender c.ask_with_lock.result
    c.self.invariant c.ask_with_lock.ensures.asked
