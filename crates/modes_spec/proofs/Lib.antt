pub mod Pieces
pub mod Joining
pub mod HandedOn
pub mod Undo
pub mod Sixteen
pub mod Same
pub mod Equations
pub mod Pins
