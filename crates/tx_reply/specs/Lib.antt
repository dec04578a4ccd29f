pub mod Words
pub mod Versions
pub mod Replies
