-- The text of a value of strings, whole numbers and arrays is read back.
pub mod Compact
-- It is one line.
pub mod Newlines
-- The members of a step say that step.
pub mod StepsReadBack
-- Members, one after the other.
pub mod MemberTexts
