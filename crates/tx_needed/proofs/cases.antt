-- Conditions on requests.
pub mod Bypasses
pub mod Prewrites
pub mod Commits
-- Those, and cases of the tables.
pub mod Rollbacks
pub mod Checks
-- Conditions on other events.
pub mod Sessions
pub mod Taken
-- Cases of the tables.
pub mod Reads
pub mod Locks
-- What answers leave.
pub mod Leaves
