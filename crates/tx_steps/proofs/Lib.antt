-- Why steps are read as they are said.
pub mod FirstMembers
pub mod ReadKeys
pub mod ManyMembers
pub mod Apart
pub mod RisingBounds
