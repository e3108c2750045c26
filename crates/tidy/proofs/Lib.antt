pub mod Laws
pub mod Pieces
pub mod Storing
pub mod TidyingLaws
