-- None of those so far is of the key.
use Rattle.std.proofs.Common.{ℕ, ◌<◌, ◌≢◌, get_or}
use Rattle.tx_recording.specs.Recordings.{no_op}
use Rattle.tx_verdict.proofs.open_order.puts_first.Given as goal

abbrev pub invariant-loop-i : goal.invariant-loop-i
invariant-loop-i l = (q : ℕ) → q < l.i → (get_or l.ops q no_op).key ≢ l.key
