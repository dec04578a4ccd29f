-- The least so far.
use Rattle.std.proofs.Common.{◌≡◌, ◌≤◌, length}
use Rattle.tx_order.specs.Graphs.{IsCycle}
use Rattle.tx_order.proofs.shortest.shorten_by_from.Given as goal

abbrev pub invariant-loop-i : goal.invariant-loop-i
invariant-loop-i l = record {
  cycle : IsCycle l.edges l.cycle → IsCycle l.edges l.least.items;
  short : length l.least.items ≤ length l.cycle;
  nodes : length l.breadth.by.items ≡ l.nodes;
  empty : length l.breadth.met.items ≡ 0;
}
