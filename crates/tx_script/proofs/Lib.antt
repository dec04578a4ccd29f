-- Lines of a script have one play where its events are a world run.
pub mod OnePlay
-- What sessions have in their buffers was entered under their names.
pub mod BufferOwners
-- What holds of whatever a turn goes on to, by what regions answer.
pub mod TurnResults
-- What a step's turn replies, by what has then happened.
pub mod TurnReplies
-- Each reply of a play tells of its events.
pub mod PlayReplies
-- What a line of a script leads to, by what it says.
pub mod LineTurns
-- The loop over the lines: under the condition that no more events came than the engine made, what
-- is written is of a play.
pub mod Scripts
-- A player's next line: it goes on by it, or stays where it was.
pub mod Players
-- The replies of a script, by what was found of each line.
pub mod Lines
-- When all has settled, the condition holds: nobody else acted.
pub mod Ends
-- Lines that are written one after another, up to where that was broken off.
pub mod Begun
-- A script that is checked: the steps that were kept are those of its run, which are a
-- run of the machine.
pub mod Checks
-- The numbers of the lines during which steps were taken, from line to line.
pub mod LineNumbers
-- The numbers of steps in the loop over the lines, by what was found of each.
pub mod NumberedLines
-- What was written of a script whose steps stand beside the numbers of its lines, in the end.
pub mod NumberedEnds
-- A line that is out of order, and how far the session of its step is.
pub mod Stops
-- A player that has a key shown stands where it stood.
pub mod Peeks
