pub mod Optional
pub mod Values
pub mod Record
pub mod Fields
