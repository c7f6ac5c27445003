pub mod Columns
pub mod Rounds
