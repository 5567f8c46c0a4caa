pub mod Operations
pub mod Checks
pub mod Quick
pub mod Laws
