-- What a session's acts count, and what they are where nobody else acted.
pub mod ActCounts
-- What the seat for what no session does makes.
pub mod SystemSeat
-- What is counted over all slots, where one of them acts.
pub mod SlotCounts
-- What steps of a session are in the engine state that the engine holds.
pub mod Turns
-- The steps of the engine, by what its calls give.
pub mod Engines
-- At the end each seat has learnt what is newest: so the history is no longer than what the
-- seats have made.
pub mod HistoryLengths
-- Histories only grow in a turn.
pub mod AllGrow
-- A turn leads to one thing where what it leads to is a world run.
pub mod OnePlay
-- An engine over the seats of a new journal.
pub mod Dealt
-- What a live session does is its turn.
pub mod SessionTurns
-- What an edit of a session's buffer comes to is its turn.
pub mod Edits
-- What a delivery gives is its turn.
pub mod Deliveries
-- What a step gives that has a key shown is its turn.
pub mod Inspections
-- A walk of which no request is lost.
pub mod Directly
-- What it gives to resolve a lock that a session met, and to collect.
pub mod Resolves
