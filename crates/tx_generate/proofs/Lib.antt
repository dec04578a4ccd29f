-- A text that grows by a line.
pub mod Growth
-- The texts of words.
pub mod Words
