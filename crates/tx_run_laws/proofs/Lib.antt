-- What follows from how the lines of a run were played.
pub mod Seats
pub mod LineCases
pub mod TransferRequests
pub mod LineSeats
pub mod SaidSteps
pub mod LineReplies
pub mod SeedReplies
pub mod SeatHistories
pub mod TransferDeclarations
pub mod LineOutcomes
pub mod RunReplies
pub mod RunOutcomes
pub mod RunClauses
pub mod ScanWalks
pub mod LineActs
pub mod LineTurns
