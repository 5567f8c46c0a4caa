pub mod Refusals
pub mod States
pub mod Numbers
pub mod Quick
pub mod Laws
