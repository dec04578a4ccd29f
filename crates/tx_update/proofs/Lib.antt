-- Seats and sessions that go on, one call after another.
pub mod CallSequences
-- A session's commit lies above those that its seat was told of before it declared.
pub mod CommitOrder
-- How a try ends after tries without effect, so the whole ends.
pub mod Retries
-- What a session's reads find.
pub mod ReadAnswers
-- What reads of one key and of several find, now and in each run from then on.
pub mod FoundKeys
-- What a session's reads are answered.
pub mod ReadReplies
-- By what a read stops.
pub mod ReadStops
-- The rows of pages are the rows of their range.
pub mod Pages
-- What was entered of keys, over rows.
pub mod Entries
-- The rows of a range, with what was entered over them.
pub mod Ranges
-- No key lies above the greatest.
pub mod Topmost
