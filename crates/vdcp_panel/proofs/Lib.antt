-- The lemmas, file by file.
pub mod Gained
mod Guarding
mod Keeping
mod Numbers
pub mod Turning
