pub mod Learns
pub mod Walks
pub mod Rooms
pub mod Facts
pub mod Calls
pub mod Order
pub mod Statuses
