pub mod Nibbles
pub mod Sbox
pub mod Saes
