-- None of the reads so far.
use Rattle.std.proofs.Common.{ℕ, ◌<◌}
use Rattle.tx_history.specs.Records.{writers_of}
use Rattle.tx_history.specs.Additions.{IsSeenEdge, read_at, after_edge}
use Rattle.tx_history.proofs.dependency.wr.Given as goal

abbrev pub invariant-loop-i : goal.invariant-loop-i
invariant-loop-i l = (j : ℕ) → j < l.i
    → IsSeenEdge (writers_of l.recorded (read_at l.recorded j).key) (read_at l.recorded j) (after_edge l.from l.to) → ⊥
