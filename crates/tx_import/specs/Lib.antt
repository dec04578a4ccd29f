pub mod Said
pub mod MemberNames
pub mod Numbers
pub mod Drafts
pub mod Histories
pub mod Turns
pub mod Recorders
