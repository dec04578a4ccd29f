use Rattle.tx_update.proofs.CallSequences.{follows_more, goes_more}
use Rattle.tx_embed.proofs.EnteredKeys.{keeps_more, keeps_same}
use Rattle.tx_embed.proofs.session.Running.clear.Goals as goal

pub invariant_of-self : goal.invariant_of-self
invariant_of-self g c = (
  c.self.invariant.0,
  follows_more g.B.Begun.session c.self.inside.session c.clear.new.session c.self.invariant.1
      c.clear.ensures.session,
  goes_more g.B.Begun.resolver c.self.inside.resolver c.clear.new.resolver c.self.invariant.2
      c.clear.ensures.resolver,
  keeps_more g.B.Begun.session.state.buffer c.self.inside.session.state.buffer c.clear.new.session.state.buffer
      c.self.invariant.3
      (keeps_same c.self.inside.session.state.buffer c.clear.new.session.state.buffer c.clear.ensures.buffer),
)
