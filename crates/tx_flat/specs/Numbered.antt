-- The number that is noted of each key. Keys share some maps, each key's in the one of its slot.
use Rattle.std.specs.Prelude.{◌≡◌, ℕ, List, Option, None, Some, IsSome, get_or, map}
use Rattle.std.specs.List.{slice_get}
use Rattle.std.specs.Ordering.{nat_cmp}
use Rattle.std.specs.Cmp.Lexicographic.{slice_cmp}
use Rattle.std.specs.BTreeMap as tree
use Rattle.std.specs.BTreeMap.{BTreeMap}
use Rattle.tx_types.specs.declared.key.Key.{Key}
use Rattle.tx_flat.specs.Ceilings.{slot_of}
use Rattle.tx_flat.specs.declared.FlatCells.{FlatCells}

-- a number that was found, and 0 where none was
abbrev pub number_or_none : Option ℕ → ℕ
number_or_none None = 0
number_or_none (Some number) = number

-- the numbers of a map
abbrev pub numbers_in : BTreeMap Key ℕ → Key → ℕ
numbers_in numbers key = number_or_none (tree.get (slice_cmp nat_cmp) numbers key)

-- the numbers of the keys of some maps: 0 where a key's slot has none
abbrev pub numbers_among : List (BTreeMap Key ℕ) → Key → ℕ
numbers_among maps key = get_or (map numbers_in maps) (slot_of key) (λ k. 0) key

-- the map of the key's slot, which is this one, has a number of the key
pub record IsNoted (maps : List (BTreeMap Key ℕ)) (slot : ℕ) (key : Key) : Type 0 where
  pub is : slot ≡ slot_of key
  pub at : BTreeMap Key ℕ
  pub found : slice_get maps slot ≡ Some at
  pub noted : IsSome (tree.get (slice_cmp nat_cmp) at key)

abbrev pub flat_numbers : FlatCells → Key → ℕ
flat_numbers flat = numbers_among flat.numbers.items
