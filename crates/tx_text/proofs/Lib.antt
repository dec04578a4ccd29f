-- The lines of a text.
pub mod TextLines
-- The lexemes of a line, one by one.
pub mod Lexemes
-- A whole number, or null, among them.
pub mod Digits
-- The value of an array of strings, numbers and nulls, by its lexemes.
pub mod Leaves
-- What is scanned of a line with a list of rows at its end.
pub mod ListedRows
-- The text of a line, part by part.
pub mod Texts
-- Bytes that stand for themselves in a string, a block at a time.
pub mod Plains
-- Lists, entry by entry.
pub mod Lists
