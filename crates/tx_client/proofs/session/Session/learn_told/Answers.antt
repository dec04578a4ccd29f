use Rattle.tx_client.proofs.Calls.{seen_seated}
use Rattle.tx_client.proofs.session.Session.learn_told.Goals as goal

pub invariant_of-self : goal.invariant_of-self
invariant_of-self g c = seen_seated g.J.JournalId.bounds
    c.self.inside.seat c.learn.new.self c.self.inside.transaction c.self.invariant c.learn.ensures.same.0
    c.learn.ensures.seen
