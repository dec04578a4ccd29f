pub mod Fronts
pub mod Keys
pub mod Kinds
pub mod Lengths
pub mod Locks
pub mod Names
pub mod Stored
pub mod Texts
