-- A number that is counted up in its digits.
mod Counted
