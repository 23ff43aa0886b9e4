-- The definitions, file by file.
pub mod Clips
pub mod Asked
pub mod Port
pub mod Row
pub mod Clock
pub mod Answers
pub mod Seen
pub mod Kept
pub mod Held
