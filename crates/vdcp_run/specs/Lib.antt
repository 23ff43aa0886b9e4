-- The definitions, file by file.
pub mod Ends
pub mod Stalls
pub mod Asking
pub mod Session
pub mod Run
pub mod Advice
pub mod Before
