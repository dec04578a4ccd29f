pub mod OneKey
pub mod BothKeys
pub mod Collected
pub mod Marks
