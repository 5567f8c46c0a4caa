-- What callers cite of the definitions.
pub mod Operations
pub mod Checks
