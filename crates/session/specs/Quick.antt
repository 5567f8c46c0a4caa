-- What only the quick code asks for: a set gathered once, a log by itself, a call without it, a row by itself. No promise is
-- about it.
pub mod Access
pub mod Answers
pub mod Rows
pub mod Served
pub mod Follows
