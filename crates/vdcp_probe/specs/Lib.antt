-- The definitions, file by file.
pub mod Asks
pub mod Following
pub mod Walks
pub mod Inventory
