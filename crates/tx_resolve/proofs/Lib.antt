-- What a resolver knows stays so while it asks, and how sends follow one another.
pub mod Knowledge
-- What a resolver asks is allowed.
pub mod AllowedRequests
-- What answers to a resolver tell is so.
pub mod ResolverAnswers
-- Where each key had an async lock, their transaction is committed at the greatest minimum.
pub mod Greatest
-- The other keys are asked one after another.
pub mod Others
-- Regions, and locks, are gone through one after another.
pub mod Regions
-- What may come of a collector's requests.
pub mod CollectorAnswers
