use Rattle.tx_plan.proofs.LeastMinimum.{check_leaves}
use Rattle.tx_plan.proofs.laws.check_leaves_the_minimum.Goals as goal

pub returns : goal.returns
returns c = check_leaves
