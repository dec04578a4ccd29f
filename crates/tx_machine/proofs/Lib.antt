-- Small facts on options, tests and keys.
pub mod Basics
-- What one read more leaves of the reads that are kept.
pub mod Marks
-- What a commit lists, and what forbids it.
pub mod Commits
-- Write sets whose keys stand once each.
pub mod Distinct
-- The span of keys that a scan covered.
pub mod Spans
-- What a step makes of the maps is what it makes of the table.
pub mod Steps
-- A commit: what is free is what the table allows, and what is listed is what the table then says.
pub mod CommitSteps
-- How a commit ends: refused in the middle it leaves what the table says, done it leaves
-- the table after.
pub mod CommitEnds
-- The walk over the rows of a scan says what the scan sees.
pub mod Scans
-- Reads: what the versions show is what the table sees.
pub mod ReadSteps
-- Runs of a list of steps, oldest first.
pub mod Runs
pub mod Snapshots
-- The reads that the inserts of a write set leave.
mod InsertReads
-- Between a commit that leaves a value and a later insert of the key lies a delete.
pub mod Inserts
-- What is seen of a key between the start and the commit of a transaction that changes it.
pub mod Serial
-- The transactions of a run, executed one after the other in the order of their commits.
mod Executions
-- The walk over the rows of a scan finds the first key that a read sees otherwise.
pub mod Differences
-- What is told of a refused step is so in the machine's table, and refuses it.
pub mod Reasons
