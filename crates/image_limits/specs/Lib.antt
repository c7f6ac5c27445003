pub mod Fits
pub mod Marks
