-- Small facts on options, tests, results and keys.
pub mod Basics
-- What carrying out a plan makes of a region.
pub mod PlanEffects
-- Copies of what a request sees of its key, and plans that were made of them.
pub mod Copies
-- What a command makes of the numbers of the keys.
pub mod Notes
-- How a region comes to its answer.
pub mod TakenRequests
-- What comes of a plan.
pub mod PlanResults
-- How many of the keys between the regions lie at a key or below it.
pub mod BoundsBelow
-- The fronts of the keys between the regions tell where a key lies.
pub mod KeyFronts
-- What a try that stays in one place keeps.
pub mod Attempts
