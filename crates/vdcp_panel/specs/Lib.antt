-- The definitions, file by file.
pub mod Numbers
pub mod Asked
pub mod Wishes
pub mod Answered
pub mod Turned
pub mod Lasting
pub mod Seen
pub mod Looks
