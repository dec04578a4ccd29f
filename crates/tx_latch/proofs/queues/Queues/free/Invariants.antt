use Rattle.std.proofs.Common.{◌≡◌, ◌<◌, ℕ, take, cond, None, ◌&&◌}
use Rattle.tx_types.specs.declared.limits.TheConstants.{LATCH_SLOTS}
use Rattle.tx_latch.specs.Asked.{contains}
use Rattle.tx_latch.specs.Queues.{is_number, last_of}
use Rattle.tx_latch.proofs.queues.Queues.free.Given as goal

abbrev pub invariant-loop-slot : goal.invariant-loop-slot
invariant-loop-slot l = record {
  last : (s : ℕ) → s < LATCH_SLOTS
      → last_of l.self s ≡ cond (contains s (take l.slot-index l.slots)
      && is_number l.cid (last_of l.initial.self s)) None (last_of l.initial.self s);
  asked : l.self.asked ≡ l.initial.self.asked;
  positions : l.self.positions ≡ l.initial.self.positions;
}
