pub mod Sizes
pub mod Pins
