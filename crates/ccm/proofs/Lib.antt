pub mod Agree
pub mod Building
pub mod Calls
