-- The definitions, file by file.
pub mod Moments
pub mod Times
pub mod Clocks
pub mod Rows
pub mod Resume
pub mod RunsSoFar
pub mod Airings
pub mod Thinned
pub mod Mending
pub mod Runs
pub mod ListCalls
pub mod Reading
pub mod Journals
