use Rattle.tx_core.proofs.locks.ToldLocks.{told_lock, lock_stays}
use Rattle.tx_core.proofs.laws.told_lock.Goals as goal

pub returns : goal.returns
returns c = record { is = told_lock; stays = lock_stays }
