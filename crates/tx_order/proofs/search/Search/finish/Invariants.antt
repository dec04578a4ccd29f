-- What each step keeps, and how many are left.
use Rattle.std.proofs.Common.{length}
use Rattle.tx_order.specs.Graphs.{AreWithin}
use Rattle.tx_order.specs.Search.{IsSearch, StaysMet, steps_left}
use Rattle.tx_order.proofs.search.Search.finish.Given as goal

abbrev pub invariant-steps : goal.invariant-steps
invariant-steps l = record {
  search : IsSearch l.edges l.self.marks.items l.self.path.items l.self.done;
  met : StaysMet l.fn.self.marks.items l.self.marks.items;
  nodes : AreWithin (length l.self.marks.items) l.edges;
}

abbrev pub decreases-steps : goal.decreases-steps
decreases-steps l = steps_left l.edges l.self.marks.items l.self.path.items
