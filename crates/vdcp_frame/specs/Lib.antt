-- The definitions, file by file.
pub mod Message
pub mod Reading
pub mod Head
pub mod Seen
pub mod Step
pub mod Burst
pub mod Progress
pub mod Reader
pub mod Front
pub mod Place
pub mod Pieces
pub mod Walk
