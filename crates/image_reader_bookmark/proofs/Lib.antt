pub mod Laws
pub mod Pins
