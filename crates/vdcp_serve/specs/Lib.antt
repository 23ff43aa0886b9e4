-- The definitions, file by file.
pub mod Timing
pub mod Stay
pub mod Panel
pub mod Serve
