-- Facts on tests, filters and membership.
pub mod Lists
-- Which commands are granted, and which become so when a granted one leaves.
pub mod Granted
-- What the queues of the slots tell of the list that was asked.
pub mod Links
-- The last command in a slot, as commands join and leave.
pub mod Last
-- A command is granted exactly where it stands directly behind none.
pub mod Ahead
-- Which commands become granted, by those that follow the one that leaves.
pub mod Freed
-- Changes of one position, of all positions, and of the end of the list of positions.
pub mod Places
-- What holds of the queues after a command joined them.
pub mod Join
-- What holds of the queues after a granted command left them.
pub mod Leave
-- One slot of a command that joins the queues.
pub mod Steps
-- What the positions tell of the list that was asked.
pub mod Read
-- A command added at the end of the positions, and one taken out.
pub mod Ends
-- A granted command taken out of the positions.
pub mod Taken
-- Commands that need no queue.
pub mod Lone
-- The positions once the empty ones are dropped.
pub mod Compact
-- No two granted commands share a slot.
pub mod Apart
