pub mod Printing
pub mod Text
pub mod Shown
