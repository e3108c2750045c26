pub mod Orders
pub mod Faults
pub mod OrderLaws
