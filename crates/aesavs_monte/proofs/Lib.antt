mod KeyBytes
pub mod Agree
pub mod Equations
pub mod Pins
