use Rattle.std.proofs.Common.{subst}
use Rattle.tx_core.specs.Laws.{WasToldOf}
use Rattle.tx_client.specs.Statuses.{Stopping}
use Rattle.tx_client.proofs.Locks.{met_was_told}
use Rattle.tx_client.proofs.resolved.Met.into_parts.Goals as goal

-- what stood in the way was told of
pub returns-clause-told : goal.returns-clause-told
returns-clause-told g c =
    subst (λ (z : Stopping). WasToldOf z.events z.info) c.self.view_is
    (met_was_told c.self.inside.told c.self.inside.info c.self.invariant)
