-- What was entered for the keys of a session's buffer, and what edits enter.
pub mod Buffers
-- What walks come to, by what was answered on the way.
pub mod Results
-- What the line of a call is told.
pub mod Calls
-- What a reply tells stays so as the history grows.
pub mod Stays
-- What the requests of a walk come to, where each of them was answered.
pub mod Sends
