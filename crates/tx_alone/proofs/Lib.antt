-- What a seat then knows, where nobody else acted.
pub mod OwnEvents
-- What the requests of a walk come to over a store, where nobody else acted.
pub mod StoreWalks
-- What the walk of a call may ask.
pub mod CallBodies
-- A walk that is run where nobody else acts is its turn.
pub mod WalkTurns
-- What a session does by itself is its turn.
pub mod ActTurns
-- What begins and ends a session is its turn.
pub mod LifeTurns
-- What a call comes to over a store is its turn.
pub mod CallTurns
-- Whatever is sent over a store, its answers can be counted.
pub mod CountedWalks
-- A step that is made over a store is its turn.
pub mod StepTurns
-- A step that resolves a lock is its turn.
pub mod ResolveTurns
