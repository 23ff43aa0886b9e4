-- The definitions, file by file.
pub mod Messages
pub mod Commands
pub mod Replies
pub mod Texts
pub mod Computed
pub mod LawsBelow
