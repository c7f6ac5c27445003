pub mod ByColumns
pub mod Loaded
pub mod Keyed
