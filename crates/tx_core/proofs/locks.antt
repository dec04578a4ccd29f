-- The minimum told of a lock on its primary is at most what the primary has shown, so that a
-- read may pass by it.
pub mod Told
pub mod Shown
-- What a told lock says, and what all locks of a transaction say together.
pub mod LocksSay
pub mod ToldLocks
pub mod AllAsync
