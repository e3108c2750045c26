pub mod Number
pub mod Outcome
pub mod Answer
