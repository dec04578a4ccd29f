pub mod Steps
pub mod Words
pub mod MachineSteps
pub mod Reasons
pub mod Writers
pub mod Check
pub mod Turns
pub mod All
