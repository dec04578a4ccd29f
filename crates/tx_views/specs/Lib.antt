pub mod Owners
pub mod Views
