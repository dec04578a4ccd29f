-- The text of a page.
pub mod Pages
