pub mod Building
pub mod Calls
