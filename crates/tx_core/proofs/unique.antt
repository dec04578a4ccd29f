-- Case tables, and what is the only one of its kind.
pub mod Cases
-- The commands of one key, and the rise of a safe point.
pub mod OneKey
-- The commands that go over keys: a list in the order of its keys is told by its members.
pub mod KeyLists
pub mod Scan
pub mod Locks
-- Every command, after a world run.
pub mod OneAnswer
