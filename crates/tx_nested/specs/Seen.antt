-- Entries as the map that contracts see.
use Rattle.std.specs.Prelude.{ℕ, List}
use Rattle.std.proofs.Common.{inl}
use Rattle.std.specs.BTreeMap.{BTreeMap}
use Rattle.std_collections.specs.Layout.BTreeMap.{btree_map}

-- std's map of these entries, which lie in no tree
abbrev pub map_of : {X : Type 0} → List (ℕ × X) → BTreeMap ℕ X
map_of es = btree_map es (inl tt)
