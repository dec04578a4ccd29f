-- What is left of transactions, one by one.
pub mod Lefts
-- How many were not told of yet.
pub mod Counts
-- Past the last transaction nobody is told of.
pub mod Past
-- What explains the whole explains what is left.
pub mod Wholes
