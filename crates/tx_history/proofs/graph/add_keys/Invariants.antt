-- The edges of the keys so far.
use Rattle.std.proofs.Common.{◌≡◌, ◌+◌, ◌<◌, ◌≤◌, length, slice_index}
use Rattle.tx_history.specs.Records.{writers_of}
use Rattle.tx_history.specs.Additions.{Adds, Each, IsVersionEdge}
use Rattle.tx_history.proofs.graph.add_keys.Given as goal

abbrev pub invariant-loop-key : goal.invariant-loop-key
invariant-loop-key l = record {
  added : Adds l.fn.edges.items l.edges.items
      (Each l.key (λ k. Each (length (writers_of l.recorded k)) (IsVersionEdge (writers_of l.recorded k))));
  few : l.key < length l.recorded.heads.items
      → length l.edges.items ≤ length l.fn.edges.items + slice_index l.recorded.heads.items l.key;
  all : l.key ≡ length l.recorded.heads.items
      → length l.edges.items ≤ length l.fn.edges.items + length l.recorded.writers.items;
}
