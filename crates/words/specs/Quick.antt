-- What only the code asks for. No promise of the chip is about these.
pub mod Present
pub mod Numbered
