pub mod Extension
pub mod Laid
pub mod Parts
pub mod Places
pub mod Ordered
pub mod Answers
pub mod WritingLaws
