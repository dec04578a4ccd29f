pub mod Keys
pub mod Records
pub mod Readers
