pub mod Tidying
pub mod Pieces
pub mod TidyingLaws
