-- The definitions, file by file.
pub mod Files
pub mod Lines
pub mod Playable
