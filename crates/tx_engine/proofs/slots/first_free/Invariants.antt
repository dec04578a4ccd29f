use Rattle.std.proofs.Common.{◌≡◌, ◌+◌, drop, map, option_map}
use Rattle.tx_engine.specs.Semantics.{first_free}
use Rattle.tx_engine.specs.Slots.{slot_of}
use Rattle.tx_engine.proofs.slots.first_free.Given as goal

abbrev pub invariant-session_slot : goal.invariant-session_slot
invariant-session_slot g l = (l.k ≡ l.slot-index) × (first_free (map slot_of l.slots)
    ≡ option_map (λ n. n + l.slot-index) (first_free (map slot_of (drop l.slot-index l.slots))))
