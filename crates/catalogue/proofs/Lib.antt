pub mod Sums
pub mod Places
pub mod PlaceLaws
