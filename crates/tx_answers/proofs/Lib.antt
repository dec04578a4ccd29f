-- What is known of a result, and of the bytes that were read, where they are known.
pub mod Known
-- A list that is made piece by piece.
pub mod Pieces
-- What is told of a history so far, one verdict after another.
pub mod Onward
