pub mod Laws
pub mod Big
pub mod Stores
pub mod Numbers
pub mod WordLaws
