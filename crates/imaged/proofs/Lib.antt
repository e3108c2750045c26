pub mod Places
pub mod Back
pub mod ImageLaws
