pub mod Wire
pub mod Stored
