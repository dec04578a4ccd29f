-- What holds of a session's state stays so while others act.
pub mod Kept
-- What is due of a session is allowed.
pub mod Due
-- What an answer says of a key's lock is so.
pub mod Marks
-- Where each key of a buffer has an async lock, its transaction is committed at the greatest
-- of their minimums.
pub mod AsyncCommits
-- What an answer to a session's request tells, its state may keep.
pub mod Replies
-- A session's own events may come, and keep what holds of its state: its begin, its puts, its
-- declaration, its draw, and its end.
pub mod Events
-- What the calls of a session ask of its state and of its seat, and keep.
pub mod Calls
-- What a send comes to is what its walk says.
pub mod Sends
-- Some region holds each part of a scan.
pub mod Routes
-- A region answers a scan with at most as many rows as it asks for.
pub mod Rooms
-- A scan is its regions' parts in order.
pub mod Scans
-- The calls of a session that send leave what it writes as it is.
pub mod WriteSets
-- A session's commit lies above those that its seat knew to be answered when it declared.
pub mod Ordered
-- A lock that was met was told of.
pub mod Locks
