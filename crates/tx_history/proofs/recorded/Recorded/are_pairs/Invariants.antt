-- Those so far are of its transactions.
use Rattle.std.proofs.Common.{ℕ, ◌<◌}
use Rattle.tx_history.specs.Records.{IsAmong}
use Rattle.tx_history.specs.Additions.{pair_at}
use Rattle.tx_history.proofs.recorded.Recorded.are_pairs.Given as goal

abbrev pub invariant-loop-i : goal.invariant-loop-i
invariant-loop-i l = (i : ℕ) → i < l.i → IsAmong l.self.txns (pair_at l.self i)
