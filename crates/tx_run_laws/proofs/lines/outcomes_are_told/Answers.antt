use Rattle.tx_run_laws.proofs.LineOutcomes.{plays_pair, plays_stand}
use Rattle.tx_run_laws.proofs.lines.outcomes_are_told.Goals as goal

pub returns : goal.returns
returns c = record { told = plays_stand; pairs = plays_pair }
