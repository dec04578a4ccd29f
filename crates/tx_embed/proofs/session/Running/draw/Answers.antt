use Rattle.tx_update.proofs.CallSequences.{follows_more}
use Rattle.tx_embed.proofs.EnteredKeys.{keeps_more, keeps_same}
use Rattle.tx_embed.proofs.session.Running.draw.Goals as goal

pub invariant_of-self : goal.invariant_of-self
invariant_of-self g c = (
  c.self.invariant.0,
  follows_more g.B.Begun.session c.self.inside.session c.draw_commit.new.session
      c.self.invariant.1 c.draw_commit.ensures.session,
  c.self.invariant.2,
  keeps_more g.B.Begun.session.state.buffer c.self.inside.session.state.buffer
      c.draw_commit.new.session.state.buffer c.self.invariant.3
      (keeps_same c.self.inside.session.state.buffer c.draw_commit.new.session.state.buffer
      c.draw_commit.ensures.buffer),
)
