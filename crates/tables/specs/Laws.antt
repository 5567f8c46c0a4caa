-- What callers cite of the definitions.
pub mod Sound
pub mod Live
pub mod Values
pub mod Names
pub mod Labels
pub mod Edits
pub mod Pointers
pub mod Deletions
pub mod Going
pub mod Changes
