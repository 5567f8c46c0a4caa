-- What callers cite of the definitions.
pub mod Events
pub mod Lent
pub mod Numbers
