pub mod Turn
pub mod Model
