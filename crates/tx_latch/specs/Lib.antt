pub mod Slots
pub mod Asked
pub mod Queues
pub mod Lone
