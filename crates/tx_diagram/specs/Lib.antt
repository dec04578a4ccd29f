pub mod Boxes
pub mod Drawings
pub mod Pictures
pub mod Reads
