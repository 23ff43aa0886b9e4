-- The lemmas, file by file.
pub mod Lapses
pub mod Scripting
pub mod Streaming
