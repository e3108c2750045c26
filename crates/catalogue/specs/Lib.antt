pub mod Catalogue
pub mod Sum
pub mod PlaceLaws
