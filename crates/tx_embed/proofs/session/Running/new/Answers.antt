use Rattle.std.proofs.Common.{ap}
use Rattle.tx_client.specs.Calls.{Seated}
use Rattle.tx_update.proofs.CallSequences.{goes_same, follows_same}
use Rattle.tx_embed.proofs.EnteredKeys.{keeps_same}
use Rattle.tx_embed.proofs.session.Running.new.Goals as goal

-- it sets out from itself
pub invariant_of-result : goal.invariant_of-result
invariant_of-result g c = (
  c.requires.way,
  follows_same g.B.Begun.session c.args.session c.requires.session,
  goes_same g.B.Begun.resolver c.args.resolver c.requires.resolver,
  keeps_same g.B.Begun.session.state.buffer c.args.session.state.buffer
      (ap (λ (s : Seated). s.state.buffer) c.requires.session),
)
