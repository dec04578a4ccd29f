use Rattle.tx_core.proofs.runs.ReadOnly.{read_only}
use Rattle.tx_core.proofs.laws.read_only_stays.Goals as goal

pub returns : goal.returns
returns c = read_only
