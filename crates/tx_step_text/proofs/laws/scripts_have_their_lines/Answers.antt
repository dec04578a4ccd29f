use Rattle.tx_step_text.proofs.StepsReadBack.{script_lines}
use Rattle.tx_step_text.proofs.laws.scripts_have_their_lines.Goals as goal

pub returns : goal.returns
returns c = script_lines
