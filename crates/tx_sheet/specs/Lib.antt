-- Short words.
pub mod Words
-- What stands on a key, as a picture shows it.
pub mod Seen
-- Bars and diamonds: what changed of keys.
pub mod Changes
-- Arrows: where requests went.
pub mod Arrows
-- Circles: what regions read.
pub mod Reads
-- Rows, and the sheet of a film.
pub mod Rows
