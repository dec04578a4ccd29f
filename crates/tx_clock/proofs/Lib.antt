pub mod NextEvents
pub mod ClockOrder
