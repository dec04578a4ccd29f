pub mod Tells
pub mod Left
pub mod Untold
