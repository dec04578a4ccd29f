use Rattle.std.proofs.Common.{subst}
use Rattle.tx_core.specs.Histories.{Begins}
use Rattle.tx_client.specs.Calls.{Seated}
use Rattle.tx_update.proofs.CallSequences.{follows_more, goes_begins, goes_more}
use Rattle.tx_update.proofs.session.Running.clear.Goals as goal

pub invariant_of-self : goal.invariant_of-self
invariant_of-self g c = (
  c.self.invariant.0,
  follows_more g.B.Begun.session c.self.inside.session c.clear_met.new.session c.self.invariant.1
      c.clear_met.ensures.session,
  goes_more g.B.Begun.resolver c.self.inside.resolver c.clear_met.new.resolver c.self.invariant.2
      c.clear_met.ensures.resolver,
)

pub returns-clause-more : goal.returns-clause-more
returns-clause-more g c =
    subst (λ (s : Seated). Begins s.seat.events c.clear_met.new.session.seat.events) c.self.view_is
    (goes_begins c.self.inside.session.seat c.clear_met.new.session.seat c.clear_met.ensures.session.seat)
