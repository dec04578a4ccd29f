-- The bytes of a text.
use Rattle.std.specs.Prelude.{◌≡◌, ℕ, ◌-◌, ◌<◌, ◌≤◌, List, drop, length, replicate, take}
use Rattle.std.specs.Arc.{arc_value, arc_slice_items}
use Rattle.tx_types.specs.declared.text.TheConstants.{MAX_SHORT_BYTES}
use Rattle.tx_types.specs.declared.text.Storage.{Storage}
use Rattle.tx_types.specs.declared.text.Storage.TheVariants.{Short, Slice, Long}

-- few bytes are the first of an array, more are what is shared
abbrev pub bytes_of : Storage → List ℕ
bytes_of (Short s) = take s.len s.bytes
bytes_of (Slice bytes) = arc_slice_items bytes
bytes_of (Long bytes) = arc_value bytes

-- few bytes are no more than there is room for, with zeros behind them, and the others are more
abbrev pub IsWithin : Storage → Type 0
IsWithin (Short s) = (s.len ≤ MAX_SHORT_BYTES) × (drop s.len s.bytes ≡ replicate (MAX_SHORT_BYTES - s.len) 0)
IsWithin (Slice bytes) = MAX_SHORT_BYTES < length (arc_slice_items bytes)
IsWithin (Long bytes) = MAX_SHORT_BYTES < length (arc_value bytes)
