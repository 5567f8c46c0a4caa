-- What only the quick code asks for: sets gathered once, tests made at once. No promise is about these.
pub mod Names
pub mod Live
pub mod Labels
pub mod Values
pub mod Pointers
pub mod Going
