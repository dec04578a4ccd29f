-- The latch slots of a lock.
use Rattle.std.specs.Prelude.{ℕ, List, ◌∷◌, map}
use Rattle.tx_types.specs.declared.lock.LockInfo.{LockInfo}
use Rattle.tx_latch.specs.Slots.{slot_of_key}

-- those of its key, of its primary, and of the keys that it lists
abbrev pub slots_of : LockInfo → List ℕ
slots_of lock = map slot_of_key (lock.key ∷ lock.primary ∷ lock.secondaries)
