pub mod Dictionary
pub mod Subtype
pub mod Types
pub mod Quick
pub mod Laws
