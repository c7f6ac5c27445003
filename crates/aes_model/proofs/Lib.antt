pub mod Forward
pub mod Back
pub mod Row
pub mod Rows
