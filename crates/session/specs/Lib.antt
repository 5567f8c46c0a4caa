pub mod Sound
pub mod Quick
pub mod Effects
pub mod Rows
pub mod Step
pub mod Runs
pub mod Laws
