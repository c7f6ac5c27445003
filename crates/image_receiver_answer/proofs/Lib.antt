pub mod Order
pub mod Pins
