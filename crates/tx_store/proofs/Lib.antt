-- Seats and families, one after another.
pub mod DealtSeats
-- What a reply tells of the request that it answers.
pub mod Replies
