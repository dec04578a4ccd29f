-- What a client does, by what its slot has, and what a call makes of the store.
pub mod ClientActs
-- The keys of a session that commits stay, and the key of a prewrite that is due is one of them.
mod EnteredKeys
-- What a read finds by what it was answered, and where another comes before it.
pub mod Found
-- The seats of a new store, behind the region's: the resolver's, and then a slot for each.
mod NewSlots
-- A lock of which a session's scan is told is of a key of its range.
mod ScanLocks
-- A session that goes on has still seen its start, and what is told of its end.
pub mod Steps
