use Rattle.std.proofs.Common.{◌<◌, take}
use Rattle.std.specs.List.{All}
use Rattle.tx_types.specs.declared.limits.TheConstants.{LATCH_SLOTS}
use Rattle.tx_latch.proofs.queues.positions.know_small.Given as goal

abbrev pub invariant-loop-slot : goal.invariant-loop-slot
invariant-loop-slot l = All (λ s. s < LATCH_SLOTS) (take l.slot-index l.slots)
