pub mod Kept
pub mod Nested
pub mod Indexes
pub mod Seen
