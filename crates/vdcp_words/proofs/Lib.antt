-- The lemmas, file by file.
pub mod Values
pub mod Joining
pub mod CommandLemmas
pub mod ReplyLemmas
pub mod CommandLaws
pub mod ReplyLaws
pub mod WordBytes
pub mod CommandReading
pub mod ReplyReading
mod ExampleRows
