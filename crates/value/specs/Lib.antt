pub mod Value
pub mod Answer
