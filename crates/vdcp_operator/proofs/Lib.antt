-- The lemmas, file by file.
pub mod Rounds
pub mod Rows
pub mod Showing
pub mod Typing
pub mod LeavingOut
pub mod Pacing
pub mod Asked
