pub mod Editions
pub mod Pair
pub mod Sizes
pub mod Schedules
pub mod Opening
pub mod Sealing
pub mod Judging
pub mod Agree
