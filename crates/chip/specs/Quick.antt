-- What only the code asks for: a tray turn by turn. No promise is about it.
pub mod Turns
