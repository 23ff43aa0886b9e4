-- What the clauses of this crate cite.
pub mod Meaning
pub mod Text
pub mod Items
pub mod Outcome
pub mod Exchange
pub mod Failure
pub mod Subcommand
pub mod Show
pub mod Make
