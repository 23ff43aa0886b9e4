-- The lemmas, file by file.
pub mod EarlierRuns
mod Begun
mod Driven
mod Ending
mod LeftOut
mod KeptLine
mod Tries
pub mod Seen
mod Questions
mod Askers
