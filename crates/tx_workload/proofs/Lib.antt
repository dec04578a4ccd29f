-- Why the lines of a run are answered as they are.
pub mod SessionAnswers
pub mod OutcomeCounts
pub mod Evidence
pub mod ReaderStates
pub mod LineOrder
pub mod MetLocks
pub mod SessionNames
pub mod SeedAnswers
pub mod Sources
pub mod Sums
pub mod StepReplies
pub mod WrittenLines
