-- The case tables, one file a command.
pub mod Get
pub mod Scan
pub mod Prewrite
pub mod Commit
pub mod BatchRollback
pub mod TxnHeartBeat
pub mod CheckTxnStatus
pub mod CheckSecondaryLocks
pub mod ResolveLock
pub mod RaiseSafe
pub mod LocksBelow
pub mod Collect
