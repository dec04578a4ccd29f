-- What a session makes of a step, over whatever way.
pub mod Ways
-- What a step is in the words of `simulate`.
pub mod Turns
-- What it makes of one that resolves a lock.
pub mod Resolves
