use Rattle.tx_run_laws.proofs.RunClauses.{run_comes}
use Rattle.tx_run_laws.proofs.RunOutcomes.{run_outcomes, run_pairs}
use Rattle.tx_run_laws.proofs.RunReplies.{run_tells}
use Rattle.tx_run_laws.proofs.runs.played_runs_tell.Goals as goal

pub returns : goal.returns
returns c = record { tells = run_tells; pairs = run_pairs; told = run_outcomes; comes = run_comes }
