pub mod Stored
pub mod Put
