pub mod Recordings
pub mod Explanations
