-- The edges of the transactions so far.
use Rattle.std.proofs.Common.{◌≡◌, ◌+◌, length}
use Rattle.tx_history.specs.Additions.{Adds, Each, IsOwnEdge}
use Rattle.tx_history.proofs.graph.add_own.Given as goal

abbrev pub invariant-loop-txn : goal.invariant-loop-txn
invariant-loop-txn l = record {
  added : Adds l.fn.edges.items l.edges.items (Each l.txn IsOwnEdge);
  few : length l.edges.items ≡ length l.fn.edges.items + l.txn;
}
