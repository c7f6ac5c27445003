pub mod Rijndael
pub mod Operations
pub mod Model
