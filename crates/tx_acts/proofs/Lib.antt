-- What is known of a result.
pub mod Known
