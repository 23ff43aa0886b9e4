-- The definitions, file by file.
pub mod Bcd
pub mod Bytes
pub mod Clock
pub mod Day
pub mod IdText
pub mod Ids
pub mod Labels
pub mod LabelText
pub mod Parts
pub mod Timecodes
