pub mod Columns
pub mod Gathers
pub mod Passes
