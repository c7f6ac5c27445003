pub mod Edition
pub mod Sealed
pub mod Judge
pub mod KeyPair
pub mod Model
