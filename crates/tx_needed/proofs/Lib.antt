-- The words of the histories, what stands on their keys, what the region answers, and what may be
-- asked.
pub mod Words
pub mod Cells
pub mod Tables
pub mod Comes
-- What runs of the machine keep, which steps a history has, and what nothing explains.
pub mod Machine
pub mod Steps
pub mod Unexplained
-- A rule is needed by a history.
pub mod Needs
-- The histories that several cases go on from.
pub mod histories
-- The cases.
pub mod cases
-- What is no need.
pub mod Sanity
