-- What callers cite.
pub mod Bools
pub mod Search
pub mod Decides
