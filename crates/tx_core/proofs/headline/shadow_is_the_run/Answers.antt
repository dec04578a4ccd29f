use Rattle.tx_core.proofs.runs.AllRuns.{legal_shadow, legal_decisions}
use Rattle.tx_core.proofs.runs.EventSteps.{legal_explained}
use Rattle.tx_core.proofs.runs.Truths.{legal_true}
use Rattle.tx_core.proofs.headline.shadow_is_the_run.Goals as goal

pub returns : goal.returns
returns c = record { steps = legal_explained; run = legal_shadow; answers = legal_true; decisions = legal_decisions }
