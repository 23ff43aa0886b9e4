-- What the clauses of this crate cite.
pub mod Findings
pub mod Found
pub mod Judged
pub mod Rows
pub mod RowLaws
pub mod Sim
pub mod Check
pub mod Vectors
