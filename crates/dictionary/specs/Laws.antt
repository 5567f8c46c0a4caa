-- What callers cite.
pub mod Types
