-- What callers cite of the definitions.
pub mod Layout
pub mod Sets
pub mod Fields
pub mod Entries
pub mod Present
pub mod Copies
