pub mod Records
pub mod Lines
pub mod Laws
pub mod Cases
