pub mod Laws
pub mod Store
