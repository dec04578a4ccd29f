pub mod Lines
pub mod Output
pub mod Parts
pub mod Plain
pub mod Scan
pub mod Texts
pub mod Members
pub mod Faults
