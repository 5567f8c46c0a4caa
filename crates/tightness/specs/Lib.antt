pub mod Unique
pub mod Trays
pub mod Code
pub mod Demand3
