-- What a session does by itself.
pub mod Acts
-- What it sends.
pub mod Calls
-- What an edit comes to.
pub mod Edits
-- What is refused of one before memory is asked for.
pub mod Refusals
-- How far a session is.
pub mod Stages
