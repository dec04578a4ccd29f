use Rattle.tx_core.proofs.runs.Legal.{legal_request, legal_run}
use Rattle.tx_core.proofs.headline.world_runs_are_legal.Goals as goal

pub returns : goal.returns
returns c = record { runs = legal_run; requests = legal_request }
