-- The lemmas, file by file.
mod Kept
pub mod Showing
