-- What the proofs of this crate share.
pub mod ByteOrder
pub mod Parts
pub mod Fronts
