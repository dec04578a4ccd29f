pub mod Semantics
pub mod Plays
pub mod Slots
pub mod Openings
pub mod Stages
