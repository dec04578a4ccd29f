use Rattle.std.proofs.Common.{arith}
use Rattle.tx_text.specs.Plain.{is_foreign}
use Rattle.tx_text.proofs.Plains.{mask_is, foreign_tops}
use Rattle.tx_text.proofs.plain.foreign.Goals as goal

pub returns : goal.returns
returns c = mask_is is_foreign c.args.lanes _ (omega (arith, c.fits-lanes.0))
    (foreign_tops c.args.lanes 8 c.fits-lanes.0)
