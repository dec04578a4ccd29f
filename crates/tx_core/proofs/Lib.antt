-- Small facts on options, numbers and keys.
pub mod Basics
-- What a history says as one value, the invariant of it, and that the machine's table shows it.
pub mod view
-- Each elementary change of that value, proved once to keep the invariant.
pub mod changes
-- One file for each command: a region's answer keeps what holds of every history.
pub mod requests
-- The induction over every run, and what follows of decisions, acceptances and outcomes.
pub mod runs
-- What answers tell of locks.
pub mod locks
-- What stays as a history grows, and what a seat may record.
pub mod seats
-- A region has one answer to each request.
pub mod unique
-- How a region goes on: until its next collection no state of a key comes back.
pub mod evolution
-- Runs that exist, with what is decided in them and the machine's steps that are read off.
mod examples
