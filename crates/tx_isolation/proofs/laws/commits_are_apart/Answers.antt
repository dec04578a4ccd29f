use Rattle.tx_isolation.proofs.EndedRows.{apart}
use Rattle.tx_isolation.proofs.laws.commits_are_apart.Goals as goal

pub returns : goal.returns
returns c = apart
