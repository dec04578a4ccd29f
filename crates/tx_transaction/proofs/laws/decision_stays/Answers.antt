use Rattle.tx_transaction.proofs.Turns.{stays_known, stays_answered}
use Rattle.tx_transaction.proofs.laws.decision_stays.Goals as goal

pub returns : goal.returns
returns c = record { known = stays_known; answered = stays_answered }
