pub mod Index
pub mod Answer
