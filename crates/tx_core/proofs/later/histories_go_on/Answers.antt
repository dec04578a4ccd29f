use Rattle.tx_core.proofs.evolution.Notes.{left_goes_on}
use Rattle.tx_core.proofs.later.histories_go_on.Goals as goal

pub returns : goal.returns
returns c = left_goes_on
