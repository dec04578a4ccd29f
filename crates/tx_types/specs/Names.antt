-- Names of sessions and of held requests.
use Rattle.std.specs.Prelude.{ℕ, ◌&&◌, Bool, List, length, nat_le}
use Rattle.tx_types.specs.declared.limits.TheConstants.{MAX_NAME_BYTES}

-- a name is of 1 to 64 bytes
abbrev pub is_name : List ℕ → Bool
is_name name = nat_le 1 (length name) && nat_le (length name) MAX_NAME_BYTES
