pub mod Orphan
