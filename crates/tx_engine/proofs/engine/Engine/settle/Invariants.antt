use Rattle.std.proofs.Common.{◌≡◌, Contains}
use Rattle.tx_engine.specs.Slots.{SlotContent, seat_in, Done}
use Rattle.tx_engine.proofs.engine.Engine.settle.Given as goal

-- where what is left is done, all is
abbrev pub invariant-slots : goal.invariant-slots
invariant-slots g l = record {
  newest : l.newest ≡ l.fn.self.network.newest;
  slots : ((p : SlotContent) → Contains l.slots.items p → Done l.fn.self.network.newest (seat_in p)) → (p : SlotContent)
      → Contains l.fn.self.slots p → Done l.fn.self.network.newest (seat_in p);
}

abbrev pub decreases-slots : goal.decreases-slots
decreases-slots g l = goal.left-slots g l
