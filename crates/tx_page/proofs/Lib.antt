-- Lines of a page, one after another.
pub mod Told
