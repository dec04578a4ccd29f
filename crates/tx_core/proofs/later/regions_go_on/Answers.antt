use Rattle.tx_core.proofs.evolution.Order.{never_back}
use Rattle.tx_core.proofs.evolution.Steps.{new_regular, steps}
use Rattle.tx_core.proofs.later.regions_go_on.Goals as goal

pub returns : goal.returns
returns c = record {
  first = new_regular;
  stays = λ region loaded top body answer is answers. (steps region is loaded top body answer answers).regular;
  goes_on = λ region loaded top body answer is answers. (steps region is loaded top body answer answers).goes_on;
  never_back = never_back;
}
