-- World runs that there are, with what is decided in them and the machine's steps
-- that are read off.
pub mod Words
pub mod RaisedMinimum
pub mod CommitThenRead
pub mod Fallback
pub mod PushThenPass
pub mod MarkedRollback
pub mod Collection
pub mod CollectedRollback
pub mod LimitedScan
pub mod StatusAborts
pub mod Resolver
pub mod OrderedCommits
pub mod InsertReads
pub mod OneKey
pub mod Inserts
pub mod ScanMeetsLock
