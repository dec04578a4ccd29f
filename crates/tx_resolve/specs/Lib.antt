pub mod Resolution
pub mod Collection
pub mod Facts
pub mod BlockedReads
