-- The edges of the reads so far.
use Rattle.std.proofs.Common.{◌+◌, ◌*◌, ◌≤◌, length}
use Rattle.tx_history.specs.Records.{writers_of}
use Rattle.tx_history.specs.Additions.{Adds, Each, IsReadEdge, read_at}
use Rattle.tx_history.proofs.graph.add_reads.Given as goal

abbrev pub invariant-loop-i : goal.invariant-loop-i
invariant-loop-i l = record {
  added : Adds l.fn.edges.items l.edges.items
      (Each l.i (λ i. IsReadEdge (writers_of l.recorded (read_at l.recorded i).key) (read_at l.recorded i)));
  few : length l.edges.items ≤ length l.fn.edges.items + 2 * l.i;
}
