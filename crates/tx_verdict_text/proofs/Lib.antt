-- Words are text, and a line is written part by part.
pub mod Lines
