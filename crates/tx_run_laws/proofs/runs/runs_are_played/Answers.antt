use Rattle.tx_run_laws.proofs.RunClauses.{run_is_played}
use Rattle.tx_run_laws.proofs.runs.runs_are_played.Goals as goal

pub returns : goal.returns
returns c = run_is_played
