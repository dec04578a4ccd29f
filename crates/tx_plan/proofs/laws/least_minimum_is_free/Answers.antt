use Rattle.tx_plan.proofs.LeastMinimum.{mark_admitted}
use Rattle.tx_plan.proofs.laws.least_minimum_is_free.Goals as goal

pub returns : goal.returns
returns c = mark_admitted
