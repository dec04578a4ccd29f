pub mod Flats
pub mod NextKeys
pub mod Sieves
pub mod Positions
pub mod Ceilings
pub mod Numbered
