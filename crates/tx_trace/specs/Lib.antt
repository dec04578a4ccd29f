-- What a declared transaction that is not decided waits for.
pub mod Pending
-- What is kept of a history, and how each event changes it.
pub mod Logs
-- What a trace keeps, as callers see it.
pub mod Traces
-- The requests that regions took, with their answers.
pub mod Takings
