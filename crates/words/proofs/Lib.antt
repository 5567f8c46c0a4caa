pub mod Found
pub mod Chains
