-- Where as many events came as were made, nobody else acted.
pub mod Alone
-- How many events of a seat there are at most.
pub mod Counts
-- Requests that are held under names.
pub mod HeldRequests
-- What a desk's stage is after requests.
pub mod Stages
-- What the post's taking makes of what is newest.
pub mod Posts
-- The trace that is kept, as what is newest grows.
pub mod Traces
-- A walk through the network of one thread.
pub mod Walks
-- A region shows a key.
pub mod ShownKeys
-- At the end each seat has learnt what is newest.
pub mod SettledSeats
