pub mod Needed
pub mod Rules
pub mod Forgets
pub mod Leaves
