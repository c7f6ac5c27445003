pub mod Under
pub mod Parts
