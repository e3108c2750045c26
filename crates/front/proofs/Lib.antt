pub mod Front
pub mod Position
pub mod Split
pub mod Parts
pub mod Rearranged
pub mod Walk
pub mod ParameterLaws
