-- The definitions, file by file.
pub mod Typed
pub mod LeftOut
pub mod OnList
pub mod Waiting
pub mod Rows
pub mod Seen
pub mod Hands
pub mod Polls
pub mod Starts
