pub mod Regions
pub mod Calls
pub mod TakenRequests
pub mod KeyFronts
pub mod Copies
pub mod KeyPlans
pub mod Commands
pub mod Attempts
