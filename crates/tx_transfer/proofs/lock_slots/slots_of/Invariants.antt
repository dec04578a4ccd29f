use Rattle.std.proofs.Common.{◌≡◌, ◌∷◌, map, take}
use Rattle.tx_latch.specs.Slots.{slot_of_key}
use Rattle.tx_transfer.proofs.lock_slots.slots_of.Given as goal

-- the slots of the lock's key, of its primary, and of the keys so far
abbrev pub invariant-loop-key : goal.invariant-loop-key
invariant-loop-key l =
    l.slots.items ≡ map slot_of_key (l.info.key ∷ l.info.primary ∷ take l.key-index l.info.secondaries)
