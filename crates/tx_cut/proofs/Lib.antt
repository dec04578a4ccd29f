-- Rows that are shown, one after another.
pub mod ShownRows
