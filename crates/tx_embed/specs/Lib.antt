pub mod Acts
pub mod Answers
pub mod Calls
pub mod Reads
pub mod Requests
pub mod Stores
pub mod Told
pub mod Transactions
