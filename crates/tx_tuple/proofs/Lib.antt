-- Tuples order as their bytes, and no two have the same.
pub mod Ordered
-- What bytes say of the part that is to stand at their front.
pub mod Fronts
