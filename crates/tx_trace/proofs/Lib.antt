-- Sets of keys.
pub mod KeySets
-- The greatest minimum of a set, and when all of its keys are accepted async.
pub mod Minimums
-- What an accepted key changes of what a transaction waits for.
pub mod Waits
-- What an answer does is done to the transaction that its request names.
pub mod Effects
-- A trace goes on with a request that a region took.
pub mod TakenRequests
-- A trace goes on with a prewrite that was accepted.
pub mod Prewrites
-- A key that is checked.
pub mod CheckedKeys
-- A trace goes on with the check of an insert.
pub mod InsertChecks
-- A trace goes on with a declaration.
pub mod Declarations
-- A trace goes on with each request.
pub mod Requests
-- Steps that are added at the end, and a map that has one more.
pub mod Steps
-- A trace is of the histories that its log is of.
pub mod Histories
