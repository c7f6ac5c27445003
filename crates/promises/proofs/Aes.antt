pub mod Calls
pub mod Field
pub mod Cipher
pub mod Keys
