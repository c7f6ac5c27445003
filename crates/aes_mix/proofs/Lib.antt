pub mod Mix
pub mod Spin
