pub mod Jobs
pub mod Latches
pub mod Played
pub mod Refusals
pub mod States
pub mod Sums
pub mod Texts
pub mod Transfers
