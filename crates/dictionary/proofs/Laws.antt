-- What callers cite of the definitions.
pub mod Attributes
pub mod Subtypes
pub mod References
pub mod Shapes
pub mod Tags
pub mod Numbers
