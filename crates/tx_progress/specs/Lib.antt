pub mod Requests
pub mod Settlement
