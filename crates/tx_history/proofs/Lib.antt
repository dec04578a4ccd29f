pub mod Added
pub mod Graphs
pub mod Timestamps
pub mod Numbers
pub mod Within
pub mod Reasons
