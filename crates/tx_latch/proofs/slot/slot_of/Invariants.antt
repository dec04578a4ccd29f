use Rattle.std.proofs.Common.{◌≡◌, ◌<◌, drop}
use Rattle.tx_types.specs.declared.limits.TheConstants.{LATCH_SLOTS}
use Rattle.tx_latch.specs.Slots.{hash_from, slot_of_key}
use Rattle.tx_latch.proofs.slot.slot_of.Given as goal

abbrev pub invariant-loop-byte : goal.invariant-loop-byte
invariant-loop-byte l = record {
  small : l.hash < LATCH_SLOTS;
  rest : hash_from l.hash (drop l.byte-index l.byte-items) ≡ slot_of_key l.byte-items;
}
