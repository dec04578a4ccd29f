-- What holds of every history, and how an answer on one key keeps it.
pub mod Good
-- An answer that leaves a rollback.
pub mod LeftRollback
-- Reads.
pub mod Get
pub mod Scan
-- What sessions send.
pub mod Prewrite
pub mod Commit
pub mod BatchRollback
pub mod TxnHeartBeat
-- What resolvers send.
pub mod CheckTxnStatus
pub mod CheckSecondaryLocks
pub mod ResolveLock
-- What collectors send: to a region, of no transaction.
pub mod OnRegion
pub mod RaiseSafe
pub mod LocksBelow
pub mod Collect
