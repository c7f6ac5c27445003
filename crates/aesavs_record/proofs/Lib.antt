pub mod Pins
pub mod Told
