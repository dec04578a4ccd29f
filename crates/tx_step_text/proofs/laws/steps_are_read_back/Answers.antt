use Rattle.tx_step_text.proofs.StepsReadBack.{read_back}
use Rattle.tx_step_text.proofs.laws.steps_are_read_back.Goals as goal

pub returns : goal.returns
returns c = read_back
