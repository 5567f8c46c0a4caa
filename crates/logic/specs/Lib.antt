pub mod Search
pub mod Laws
