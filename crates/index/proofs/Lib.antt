pub mod Turn
pub mod Sound
pub mod Settled
pub mod Parts
