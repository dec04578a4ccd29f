pub mod Buffers
pub mod Sessions
pub mod Next
pub mod Returns
pub mod Turns
pub mod Heads
pub mod Tables
