pub mod Rotate
