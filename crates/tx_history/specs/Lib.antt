pub mod Histories
pub mod Records
pub mod Graph
pub mod Additions
pub mod Decisions
pub mod Dependencies
