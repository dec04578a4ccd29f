pub mod Play
pub mod Players
pub mod Checked
pub mod Loops
pub mod Numbered
pub mod Stages
