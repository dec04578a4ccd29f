-- Those so far join two of the nodes.
use Rattle.std.proofs.Common.{ℕ, ◌<◌}
use Rattle.tx_order.specs.Search.{edge_at}
use Rattle.tx_judge.proofs.wide_graph.are_within.Given as goal

abbrev pub invariant-loop-i : goal.invariant-loop-i
invariant-loop-i l = (i : ℕ) → i < l.i → ((edge_at l.edges i).from < l.nodes) × ((edge_at l.edges i).to < l.nodes)
