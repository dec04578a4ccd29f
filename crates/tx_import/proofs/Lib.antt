-- What was said of a part of a recording holds as more is added behind it.
pub mod Extensions
-- How much operations weigh.
pub mod Weights
-- The recording of a draft.
pub mod Drafted
-- The lines of a history that were read, and the draft of what they say.
pub mod ReadLines
-- What a line has twice, by the names of its members.
pub mod MemberTexts
-- Values with too few or too many members.
pub mod Arity
mod Bares
