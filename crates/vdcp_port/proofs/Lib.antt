-- The lemmas, file by file.
mod Examples
pub mod Frames
pub mod Idle
pub mod FewMessages
pub mod LawsBelow
pub mod Answering
pub mod Readable
pub mod Sizes
pub mod Bursts
pub mod Keeping
pub mod Reading
pub mod Refusals
mod StateByte
pub mod TableLaws
pub mod Units
