use Rattle.std.proofs.Common.{inl, ◌+◌, refl, ap}
use Rattle.tx_transfer.specs.TransferSteps.{Moving}
use Rattle.tx_transfer.proofs.transfer.TransferState.meet.Goals as goal

pub returns-in-Ok : goal.returns-in-Ok
returns-in-Ok g c = inl (refl, ap (λ (m : Moving). record m { resolved = m.resolved + 1 }) c.self.view_is)
