-- What the clauses of this crate cite.
pub mod Brought
pub mod Doings
pub mod Carried
