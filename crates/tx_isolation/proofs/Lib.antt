-- What a session's get comes to is what the machine sees at its start.
pub mod Gets
-- A row that has ended stays as it is.
pub mod EndedRows
