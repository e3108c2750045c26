pub mod Sides
pub mod Theorem
