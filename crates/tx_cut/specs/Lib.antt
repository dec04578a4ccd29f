-- Which rows of a sheet a part of it has.
pub mod Parts
