-- How many bytes a key has.
use Rattle.std.specs.Prelude.{ℕ, ◌≤◌, ◌&&◌, Bool, List, length, nat_le}
use Rattle.tx_types.specs.declared.limits.TheConstants.{MAX_KEY_BYTES, MIN_KEY_BYTES}

-- a key is of 1 to 512 bytes
abbrev pub IsKey : List ℕ → Type 0
IsKey key = (MIN_KEY_BYTES ≤ length key) × (length key ≤ MAX_KEY_BYTES)

-- the same, as a test
abbrev pub is_key : List ℕ → Bool
is_key key = nat_le MIN_KEY_BYTES (length key) && nat_le (length key) MAX_KEY_BYTES
