-- The edges of the pairs so far.
use Rattle.std.proofs.Common.{◌≡◌, ◌+◌, length}
use Rattle.tx_history.specs.Additions.{Adds, Each, IsAfterEdge, pair_at}
use Rattle.tx_history.proofs.graph.add_pairs.Given as goal

abbrev pub invariant-loop-i : goal.invariant-loop-i
invariant-loop-i l = record {
  added : Adds l.fn.edges.items l.edges.items (Each l.i (λ i. IsAfterEdge (pair_at l.recorded i)));
  few : length l.edges.items ≡ length l.fn.edges.items + l.i;
}
