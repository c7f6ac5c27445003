pub mod Octets
pub mod Words
pub mod Blocks
pub mod Model
