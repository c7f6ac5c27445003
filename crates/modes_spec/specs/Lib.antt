pub mod Pieces
pub mod Modes
pub mod Equations
