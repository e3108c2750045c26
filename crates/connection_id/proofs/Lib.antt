pub mod Laws
pub mod Defaults
pub mod Answers
pub mod ConnectionIdLaws
