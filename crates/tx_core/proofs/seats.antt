-- Beginnings of a history, and the events of one seat in it.
pub mod Beginnings
pub mod Parts
pub mod Counts
-- What stays, however a world run grows.
pub mod Stays
pub mod StaysAllowed
pub mod StaysDecided
pub mod Replies
-- What a seat may record.
pub mod Numbers
pub mod Recording
-- The greatest timestamp that was read in a history.
pub mod ReadMarks
