-- What a page has of a film.
pub mod Shown
