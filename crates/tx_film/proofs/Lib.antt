-- The first line of a text.
pub mod FirstLines
-- Keys that lines can show.
pub mod ShownKeys
-- Keys that rise, and one that is put among them.
pub mod KeyOrder
-- What came with a line is a part of what came.
pub mod Cuts
-- What is filmed goes on by a line, and ends.
pub mod Reels
-- The first of some lines, and one more.
pub mod Parts
