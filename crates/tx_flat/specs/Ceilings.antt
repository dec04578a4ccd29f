-- Where the ceiling of a key is kept.
use Rattle.std.specs.Prelude.{ℕ, List, ◌+◌, ◌*◌, ◌-◌, ◌%◌, get_or, length}
use Rattle.tx_flat.specs.declared.ceilings.TheConstants.{SLOTS}

-- by the last two bytes of the key
abbrev pub slot_of : List ℕ → ℕ
slot_of key = (get_or key (length key - 1) 0 + 10 * get_or key (length key - 2) 0) % SLOTS

-- the ceiling of a key, among those that are kept
abbrev pub ceiling_of : List ℕ → List ℕ → ℕ
ceiling_of marks key = get_or marks (slot_of key) 0
