pub mod Tally
pub mod Model
