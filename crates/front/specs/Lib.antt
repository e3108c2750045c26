pub mod Parameter
pub mod Answer
pub mod Whole
pub mod Walk
pub mod ParameterLaws
