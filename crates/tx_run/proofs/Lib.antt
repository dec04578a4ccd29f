-- Why a run tells what it promises.
pub mod AllAnswers
pub mod AnsweredLines
pub mod ComesOfTexts
pub mod Leads
pub mod LinesLeft
pub mod OwnLines
pub mod OwnSeats
pub mod Played
pub mod Sends
pub mod Subsequences
pub mod Totals
