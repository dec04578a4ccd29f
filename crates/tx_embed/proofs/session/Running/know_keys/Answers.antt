use Rattle.std.proofs.Common.{subst}
use Rattle.tx_client.specs.Calls.{Seated}
use Rattle.tx_embed.specs.Transactions.{KeepsKeys}
use Rattle.tx_embed.proofs.session.Running.know_keys.Goals as goal

pub returns : goal.returns
returns g c =
    subst (λ (s : Seated). KeepsKeys g.B.Begun.session.state.buffer s.state.buffer) c.self.view_is c.self.invariant.3
