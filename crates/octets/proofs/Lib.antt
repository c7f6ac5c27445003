pub mod Xor
pub mod Tests
pub mod Fill
pub mod Words
pub mod Blocks
pub mod Arms
pub mod Same
pub mod Both
