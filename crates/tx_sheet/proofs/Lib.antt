-- Lists, one element further.
pub mod Lists
-- Records that others do not have.
pub mod Others
-- Changes, one key further.
pub mod MoreChanges
-- Arrows, one request further.
pub mod MoreArrows
-- Reads, one request further.
pub mod MoreReads
-- Rows, one line further.
pub mod MoreRows
