-- Seats that only see what others did, and what a read at a timestamp finds.
pub mod Observers
-- Up to where the keys from one on lie in its region.
mod Parts
-- What a read at a timestamp may be answered.
mod ReadAnswers
