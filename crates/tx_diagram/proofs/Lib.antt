-- A list that is made piece by piece.
pub mod Pieces
-- What is known of a result.
pub mod Known
