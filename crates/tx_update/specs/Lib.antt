pub mod MetLock
pub mod Updates
pub mod Endings
pub mod Reads
pub mod Stops
pub mod Failures
pub mod Ranges
