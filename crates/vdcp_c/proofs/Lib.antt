-- The lemmas, file by file.
pub mod Contents
pub mod Short
pub mod Times
pub mod Places
pub mod Judged
pub mod Aired
pub mod Airings
