-- Over a way that loses nothing no call is told that a reply was lost.
pub mod Answered
-- What a call sends is its walk.
pub mod CallWalks
-- What an edit says, and what becomes of a session.
pub mod EditEffects
-- What a call may come to.
pub mod CallEnds
-- Which replies an edit says.
pub mod EditReplies
