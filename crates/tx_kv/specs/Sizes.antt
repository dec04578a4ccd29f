-- How much a range holds.
use Rattle.std.specs.Prelude.{◌≡◌, ◌+◌, ℕ, Bool, List, [], ◌∷◌, length, Option}
use Rattle.tx_types.specs.declared.key.Key.{Key}
use Rattle.tx_types.specs.declared.value.Value.{Value}
use Rattle.tx_types.specs.declared.mutation.KeyValue.{KeyValue}
use Rattle.tx_core.specs.Histories.{History}
use Rattle.tx_laws.specs.Rows.{AreRowsOf}
use Rattle.tx_kv.specs.declared.size.Size.{Size}
use Rattle.tx_kv.specs.Counters.{counted}
use Rattle.tx_kv.specs.Views.{SeesRange}

-- the bytes of the keys and of the values of these rows
abbrev pub bytes_of : List KeyValue → ℕ
bytes_of [] = 0
bytes_of (row ∷ rows) = length row.key + length row.value + bytes_of rows

-- how many rows these are, and how many bytes they have, as counters of 64 bits have it
abbrev pub size_of : List KeyValue → Size
size_of rows = record { keys = counted (length rows); bytes = counted (bytes_of rows) }

-- this is the size of the rows of the keys that pass a test
abbrev pub IsSizeOf : (Key → Bool) → (Key → Option Value → Type 0) → Size → Type 0
IsSizeOf test tells size = (rows : List KeyValue) × AreRowsOf test tells rows × (size ≡ size_of rows)

-- this is the size of the rows of a range that the one-step machine sees there at a timestamp
abbrev pub HasSize : History → ℕ → Option Key → Option Key → Size → Type 0
HasSize h at from to size = (rows : List KeyValue) × SeesRange h at from to rows × (size ≡ size_of rows)
