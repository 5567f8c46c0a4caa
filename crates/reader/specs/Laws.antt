-- What the proofs cite of the definitions.
pub mod Blocks
pub mod Whole
pub mod Reads
pub mod Printed
