pub mod Lengths
pub mod Theorem
