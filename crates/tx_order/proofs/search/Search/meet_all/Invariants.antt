-- The path is empty before each node, and the nodes before it are met.
use Rattle.std.proofs.Common.{◌≡◌, ◌≢◌, ℕ, ◌<◌, length}
use Rattle.tx_order.specs.declared.search.Mark.TheVariants.{Unseen}
use Rattle.tx_order.specs.Search.{mark_of, IsSearch}
use Rattle.tx_order.proofs.search.Search.meet_all.Given as goal

abbrev pub invariant-loop-node : goal.invariant-loop-node
invariant-loop-node l = record {
  search : IsSearch l.edges l.self.marks.items l.self.path.items l.self.done;
  empty : length l.self.path.items ≡ 0;
  all : length l.self.marks.items ≡ l.nodes;
  met : (v : ℕ) → v < l.node → mark_of l.self.marks.items v ≢ Unseen;
}
