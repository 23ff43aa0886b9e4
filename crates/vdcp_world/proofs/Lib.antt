-- The lemmas, file by file.
mod Examples
pub mod Beginnings
pub mod Reached
pub mod PhaseTable
pub mod Exchanges
pub mod Readings
pub mod Slots
pub mod OnTheWay
pub mod WayLemmas
pub mod WayKept
pub mod Claims
pub mod TableKept
pub mod Kept
pub mod HeadlineProof
pub mod GoodRound
pub mod RoundsLeft
pub mod ConfirmedRounds
pub mod BoundedEndProof
pub mod AtEndProof
pub mod Opened
pub mod InStepProof
pub mod InTime
pub mod Losses
pub mod Owed
pub mod Leftover
mod AnyPort
pub mod NoCutProof
pub mod ScriptLemmas
pub mod LateLine
