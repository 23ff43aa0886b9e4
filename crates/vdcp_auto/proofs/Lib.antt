-- The lemmas, file by file.
mod Examples
mod HeardRows
mod PhaseTable
mod WorkedRows
mod LogRows
pub mod Lists
pub mod Memo
pub mod LookBacks
pub mod Runs
pub mod Keeps
pub mod Steps
pub mod Rows
pub mod Calls
pub mod Sending
pub mod Courses
pub mod Receipts
pub mod Law
mod Forbidden
mod Logs
mod Cues
mod Judged
mod KeptRules
