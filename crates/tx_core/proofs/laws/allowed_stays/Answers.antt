use Rattle.tx_core.proofs.seats.StaysAllowed.{allowed_later}
use Rattle.tx_core.proofs.laws.allowed_stays.Goals as goal

pub returns : goal.returns
returns c = allowed_later
