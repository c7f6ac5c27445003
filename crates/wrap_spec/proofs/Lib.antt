pub mod Passing
pub mod Agree
