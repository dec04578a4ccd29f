-- Those so far are reads of it.
use Rattle.std.proofs.Common.{ℕ, ◌<◌}
use Rattle.tx_history.specs.Records.{IsReadIn}
use Rattle.tx_history.specs.Additions.{read_at}
use Rattle.tx_history.proofs.recorded.Recorded.are_reads.Given as goal

abbrev pub invariant-loop-i : goal.invariant-loop-i
invariant-loop-i l = (i : ℕ) → i < l.i → IsReadIn l.self (read_at l.self i)
