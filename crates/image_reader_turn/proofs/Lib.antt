pub mod Agree
pub mod Calls
pub mod Blockwise
pub mod Pins
