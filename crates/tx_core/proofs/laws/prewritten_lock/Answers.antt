use Rattle.tx_core.proofs.locks.AllAsync.{prewritten_lock}
use Rattle.tx_core.proofs.laws.prewritten_lock.Goals as goal

pub returns : goal.returns
returns c = prewritten_lock
