-- Lists of members, read one by one.
pub mod Members
-- Values with too few or too many members.
pub mod Arity
-- The step that a line says, and the causes for which it says none.
pub mod LineSteps
-- Lines have one verdict.
pub mod Verdicts
-- The lines of a trace that were read, and the machine that made their steps.
pub mod Traces
-- The text of a line whose first member is any value.
pub mod StepLines
-- What is appended to bytes part by part.
pub mod Joins
-- The reason that is told is one of the step that was refused.
pub mod Told
-- The lines that were read by a check that goes on.
pub mod Onward
-- The lines that were read by a walk that keeps their steps.
pub mod Walks
