-- What changes of flat maps make of what is held of each key.
mod FlatMaps
-- What each change makes of flat maps, from what is known of the look-ups of the changed maps.
mod FlatChanges
-- The locks of flat maps, as the rows of a walk.
mod FlatRows
-- What the first entry from a version on says of the versions of its key.
mod Nearest
-- The order of versions, and what the last entry before a version says of the newer versions of its
-- key.
mod Above
-- A walk from the start of a value up its key's records finds whether the value is outdated.
mod OutdatedValues
-- A pass over the entries of a map of versions tells which records collection keeps.
mod Sieves
-- What is left of a map of versions where entries were kept or dropped one by one.
mod KeptEntries
-- How many records a pass over the entries of a map of versions has dropped.
mod SieveCounts
-- What is left of a key of flat maps where its values went first and then its records.
mod FlatDrops
-- The keys of which flat maps hold something, in order, and the rows of a walk over them.
mod HeldKeys
-- What is known where a walk over flat maps keeps its place, and what of their entries is behind a
-- key.
mod Positions
-- What a walk over flat maps sees of the key that it passes, and where it stands then.
mod PassedKeys
-- No write record is above the ceiling of its key, whatever changes.
mod FlatBounds
-- What changes of the map of numbers make of the numbers of keys.
pub mod FlatNumbers
