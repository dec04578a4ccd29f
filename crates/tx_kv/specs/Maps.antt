-- What the maps of a store's regions hold, of either kind.
use Rattle.std.specs.Prelude.{ℕ}
use Rattle.tx_types.specs.declared.key.Key.{Key}
use Rattle.tx_cells.specs.Contents.{Content}
use Rattle.tx_flat.specs.Flats.{flat_content}
use Rattle.tx_flat.specs.Numbered.{flat_numbers}
use Rattle.tx_nested.specs.Nested.{nested_content, nested_numbers}
use Rattle.tx_kv.specs.declared.maps.StoreCells.{StoreCells}
use Rattle.tx_kv.specs.declared.maps.StoreCells.TheVariants.{Nested, Flat}

-- what they hold of each key
abbrev pub held_in : StoreCells → Content
held_in (Nested cells) = nested_content cells
held_in (Flat cells) = flat_content cells

-- the number that is noted of each key
abbrev pub noted_in : StoreCells → Key → ℕ
noted_in (Nested cells) = nested_numbers cells
noted_in (Flat cells) = flat_numbers cells
