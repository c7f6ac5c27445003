pub mod Nibbles
pub mod Undo
pub mod Pins
