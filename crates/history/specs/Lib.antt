pub mod Remains
pub mod Live
pub mod Demand3
