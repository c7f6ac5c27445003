pub mod Places
pub mod Pins
