use Rattle.std.proofs.Common.{arith}
use Rattle.tx_text.specs.Plain.{is_stop}
use Rattle.tx_text.proofs.Plains.{mask_is, stop_tops}
use Rattle.tx_text.proofs.plain.stops.Goals as goal

pub returns : goal.returns
returns c = mask_is is_stop c.args.lanes _ (omega (arith, c.fits-lanes.0)) (stop_tops c.args.lanes 8 c.fits-lanes.0)
