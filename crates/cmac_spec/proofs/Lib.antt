pub mod Chain
pub mod Filling
pub mod OnePiece
pub mod Same
