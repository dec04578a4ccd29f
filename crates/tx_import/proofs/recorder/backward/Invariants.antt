-- None so far ended before it began.
use Rattle.std.proofs.Common.{ℕ, ◌<◌}
use Rattle.tx_import.specs.Recorders.{IsBackward}
use Rattle.tx_import.proofs.recorder.backward.Given as goal

abbrev pub invariant-loop-txn : goal.invariant-loop-txn
invariant-loop-txn l = (t : ℕ) → t < l.txn → IsBackward l.recording t → ⊥
