pub mod View
pub mod Sound
pub mod Edits
pub mod Deletions
pub mod Changes
pub mod Quick
pub mod Laws
