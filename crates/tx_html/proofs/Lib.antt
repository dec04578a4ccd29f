-- A list that is made piece by piece.
pub mod Pieces
-- That data ends nothing.
pub mod Safe
