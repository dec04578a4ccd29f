-- What the tests of the plans say.
pub mod Orders
-- What a region answers with the least minimum is an answer of the tables.
pub mod LeastMinimum
-- Keys are in a total order.
pub mod KeyOrder
-- Rows in the order of their keys, taken one after another.
pub mod WalkRows
-- The lock that a prewrite puts is the one that its answer tells.
pub mod PutLocks
-- A transaction's lock that is committed, or refused.
pub mod LockCommits
-- What a view shows of a transaction.
pub mod Seen
-- A scan that walks the rows of a region: what it has found so far, at each row, and where it ends.
pub mod Scans
-- The locks of a region that started below a timestamp, from a walk over its locks.
pub mod LockRows
-- Collection of one key, record by record from the safe point down.
pub mod Collects
-- Lists in which nothing stands twice.
pub mod OnceLists
-- What collection drops of a region, key after key.
pub mod DropCounts
-- What the cells of a key meet stays so through changes, prewrites and collection.
pub mod Sound
-- The pictures of docs/PROTOCOL.md: what each request there leaves, by computation.
mod Pictures
-- What a transaction's lock that is there, or not, makes of a rollback.
pub mod OwnLocks
