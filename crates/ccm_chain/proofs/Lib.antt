pub mod Chains
pub mod Macs
