-- The definitions, file by file.
pub mod Beginnings
pub mod Channel
pub mod Rounds
pub mod Script
pub mod Headline
pub mod BoundedEnd
pub mod AnyPort
pub mod AtEnd
pub mod InStep
pub mod InTime
pub mod Losses
pub mod NoCut
pub mod LateLine
pub mod Below
