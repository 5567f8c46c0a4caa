pub mod Layout
pub mod Sets
pub mod Fields
pub mod Entries
pub mod Copies
pub mod Quick
pub mod Laws
