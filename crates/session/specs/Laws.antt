-- What callers cite of the definitions.
pub mod Checks
pub mod Rows
pub mod Sound
pub mod Range
pub mod Answers
pub mod Served
