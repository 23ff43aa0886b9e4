-- What the clauses of this crate cite, and facts about it for those above.
pub mod Acts
pub mod Answers
pub mod Scripts
pub mod Streams
pub mod Wires
pub mod WireLaws
pub mod Address
pub mod Listening
