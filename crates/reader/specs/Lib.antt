pub mod Blocks
pub mod Printed
pub mod Reads
pub mod Laws
