pub mod Chain
pub mod Model
