-- What callers cite of the definitions.
pub mod Records
pub mod Decimal
pub mod Writing
