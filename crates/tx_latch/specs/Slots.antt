-- The slots over which latches are spread, and the slot of a key.
use Rattle.std.specs.Prelude.{ℕ, ◌+◌, ◌*◌, ◌%◌, List, [], ◌∷◌}
use Rattle.tx_types.specs.declared.limits.TheConstants.{LATCH_SLOTS}

-- the slot that these further bytes lead to from a slot: each byte makes h the last eight
-- bits of 31 h + byte
abbrev pub hash_from : ℕ → List ℕ → ℕ
hash_from h [] = h
hash_from h (byte ∷ bytes) = hash_from ((31 * h + byte) % LATCH_SLOTS) bytes

-- the slot of a key
abbrev pub slot_of_key : List ℕ → ℕ
slot_of_key bytes = hash_from 0 bytes
