pub mod AsStep
pub mod Demand3
