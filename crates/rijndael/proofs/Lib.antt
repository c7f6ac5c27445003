mod Blocks
mod Runs
mod Steps
pub mod Done
