-- The nodes of the edges so far, each with its edge to the next one's.
use Rattle.std.proofs.Common.{◌≡◌, ℕ, ◌+◌, ◌<◌, ◌≤◌, length, Contains, slice_index}
use Rattle.tx_order.specs.Search.{edge_at}
use Rattle.tx_order.proofs.breadth.nodes_round.Given as goal

abbrev pub invariant-loop-i : goal.invariant-loop-i
invariant-loop-i l = record {
  len : length l.nodes.items ≡ l.i;
  from : (j : ℕ) → j < l.i → slice_index l.nodes.items j ≡ (edge_at l.edges (slice_index l.steps j)).from;
  linked : (j : ℕ) → j < l.i → j + 1 < length l.steps
      → Contains l.edges record {
        from = slice_index l.nodes.items j;
        to = (edge_at l.edges (slice_index l.steps (j + 1))).from;
      };
  last : (j : ℕ) → j < l.i → length l.steps ≤ j + 1
      → Contains l.edges record {
        from = slice_index l.nodes.items j;
        to = (edge_at l.edges (slice_index l.steps 0)).from;
      };
}
