-- The buffer by indexes.
pub mod Places
-- Keys that are looked up in a buffer.
pub mod Lookups
-- The buffer by indexes: what it declares, and what stands in it.
pub mod Entries
-- What is known of a fate stays, and which rollbacks are due.
pub mod Turns
-- A buffer in two parts: its first few entries, and those behind them.
pub mod Parts
-- The keys at the head of a buffer of which a phase has nothing left to send.
pub mod Heads
-- The table of a write buffer, behind the reference to it.
pub mod Tables
