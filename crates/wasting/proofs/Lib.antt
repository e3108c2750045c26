pub mod Wasting
pub mod Collecting
