pub mod Ops
pub mod About
pub mod Shown
