-- Of the commits of a key at most at r one is the newest, and a read at r finds what it left.
pub mod Newest
-- A read that a history has finds the same in each later table.
pub mod LaterReads
-- What was told is committed in the table, and each read at or above it finds at least that.
pub mod Told
-- The rows of the parts of a range, one behind the other, are the rows of the whole range.
pub mod RangeParts
-- The rows of pages of a range, one behind the other, are the rows of the range.
pub mod Pages
-- What the walk of a scan comes to, part by part.
pub mod Scanned
