-- The edges of the versions so far.
use Rattle.std.proofs.Common.{◌+◌, ◌≤◌, length}
use Rattle.tx_history.specs.Additions.{Adds, Each, IsVersionEdge}
use Rattle.tx_history.proofs.graph.add_versions.Given as goal

abbrev pub invariant-loop-i : goal.invariant-loop-i
invariant-loop-i l = record {
  added : Adds l.fn.edges.items l.edges.items (Each l.i (IsVersionEdge l.writers));
  few : length l.edges.items ≤ length l.fn.edges.items + l.i;
}
