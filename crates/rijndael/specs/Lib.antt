pub mod Calls
pub mod Model
