pub mod Traces
pub mod Pages
pub mod Texts
pub mod All
pub mod Answers
