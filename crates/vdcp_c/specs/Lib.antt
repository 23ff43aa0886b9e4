-- The definitions, file by file.
pub mod Told
pub mod Rooms
pub mod Readers
pub mod Commands
pub mod Lists
pub mod ListLaws
pub mod Clips
pub mod Controllers
pub mod Judgings
pub mod Ports
