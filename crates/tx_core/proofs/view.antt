-- What a history says as one value, and what holds of it.
pub mod View
pub mod Ends
pub mod Tables
pub mod Reads
pub mod HistoryView
