-- Why a transfer moves between its two keys alone.
pub mod Collections
pub mod Digits
pub mod LineActs
pub mod TransferSteps
pub mod Resolutions
pub mod SaidTransfers
pub mod SeedWrites
pub mod Sends
pub mod ScanStarts
pub mod Steps
pub mod LearntLocks
pub mod Totals
pub mod TransferWrites
