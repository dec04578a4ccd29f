use Rattle.std.proofs.Common.{refl, ap}
use Rattle.tx_transfer.specs.TransferSteps.{Moving}
use Rattle.tx_transfer.proofs.transfer.TransferState.turn_to.Goals as goal

pub returns : goal.returns
returns g c = (refl, ap (λ (m : Moving). record m { next = c.args.phase }) c.self.view_is)
