-- Events that no region takes.
pub mod Draws
pub mod Begins
pub mod Declarations
-- Reads, and the numbers of a region.
pub mod Reads
pub mod Raises
-- The cells of one key.
pub mod Keyed
pub mod Locks
pub mod HeartBeat
pub mod Settlements
pub mod Rollbacks
pub mod Pushes
-- The cells of a region.
pub mod Collections
-- Decisions.
pub mod Commits
pub mod Aborts
-- With the machine's step that goes with each, and the ends of transactions.
pub mod Sounds
pub mod LockEnds
pub mod CellsEnds
