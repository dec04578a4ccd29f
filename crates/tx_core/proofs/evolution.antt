-- Later cells are an order.
pub mod Order
-- What each kind of change makes of the cells of a key.
pub mod Keys
-- What each answer leaves of its key, by its case table.
pub mod Tables
-- A region goes on by each of its answers.
pub mod Steps
-- Each change of a plan but `Nothing` changes the cells.
pub mod Changes
-- The number that is noted of a key tells whether its cells are those of an earlier moment.
pub mod Notes
