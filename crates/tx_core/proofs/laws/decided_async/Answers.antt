use Rattle.tx_core.proofs.locks.AllAsync.{all_async, decided_async}
use Rattle.tx_core.proofs.laws.decided_async.Goals as goal

pub returns : goal.returns
returns c = record { decided = decided_async; accepted = all_async }
