pub mod One
pub mod Gains
pub mod Again
pub mod Marked
pub mod Counted
pub mod Theorem
