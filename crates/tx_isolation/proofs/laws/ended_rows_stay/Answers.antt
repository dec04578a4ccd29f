use Rattle.tx_isolation.proofs.EndedRows.{rows_stay}
use Rattle.tx_isolation.proofs.laws.ended_rows_stay.Goals as goal

pub returns : goal.returns
returns c = rows_stay
