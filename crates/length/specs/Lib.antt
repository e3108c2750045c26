pub mod Length
pub mod Measure
