-- Which records go where all below the safe point go but one that may stay.
mod Drops
-- What changes of nested maps make of what is held.
mod NestedMaps
-- The entries of nested maps, as the rows of walks.
mod NestedRows
-- Collection of all keys of nested maps.
mod NestedCollects
-- The records below a safe point go one after the other, from the newest on.
mod DropSteps
-- Entries by their indexes.
mod EntryOrder
-- Look-ups by indexes.
mod Lookups
-- What a change leaves.
mod EntryChanges
