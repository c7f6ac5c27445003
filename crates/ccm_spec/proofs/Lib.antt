pub mod Sums
pub mod Exactly
pub mod Pieces
pub mod Pins
