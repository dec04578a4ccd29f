use Rattle.tx_step_text.proofs.StepsReadBack.{bounds_read_back}
use Rattle.tx_step_text.proofs.laws.bounds_are_read_back.Goals as goal

pub returns : goal.returns
returns c = bounds_read_back
