-- Values that are numbers.
use Rattle.std.specs.Prelude.{◌≡◌, ◌+◌, ℕ, nat_eq, cond, length, List, [], ◌∷◌, Option, Some, None}
use Rattle.std.specs.Int.{from_be_bytes, w64}
use Rattle.tx_types.specs.declared.key.Key.{Key}
use Rattle.tx_types.specs.declared.value.Value.{Value}
use Rattle.tx_types.specs.declared.mutation.KeyValue.{KeyValue}
use Rattle.tx_types.specs.declared.mutation.Mutation.{Mutation}
use Rattle.tx_core.specs.Histories.{History}
use Rattle.tx_update.specs.Reads.{Finds}
use Rattle.tx_kv.specs.Counters.{counted}

-- the number of eight bytes, the highest first
abbrev pub number_of : Value → Option ℕ
number_of value = cond (nat_eq (length value) 8) (Some (from_be_bytes w64 value)) None

-- that of what is found at a key, if there is one
abbrev pub number_in : Option Value → Option ℕ
number_in None = None
number_in (Some value) = number_of value

-- what a read of a key finds, as a number
abbrev pub FindsNumber : Option Mutation → History → ℕ → Key → Option ℕ → Type 0
FindsNumber entered h start key number =
    (found : Option Value) × Finds entered h start key found × (number ≡ number_in found)

-- what a value adds to a sum
abbrev pub or_zero : Option ℕ → ℕ
or_zero None = 0
or_zero (Some number) = number

-- the numbers of rows, together
abbrev pub total_of : List KeyValue → ℕ
total_of [] = 0
total_of (row ∷ rows) = or_zero (number_of row.value) + total_of rows

-- the same, as a counter of 64 bits has it
abbrev pub sum_of : List KeyValue → ℕ
sum_of rows = counted (total_of rows)
