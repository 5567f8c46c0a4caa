-- What only the quick code asks for. No promise is about these.
pub mod References
pub mod Shapes
pub mod Tags
