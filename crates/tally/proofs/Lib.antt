pub mod Turn
pub mod Along
