-- What only the quick code asks for. No promise is about it.
pub mod Asked
pub mod Known
