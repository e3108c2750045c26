pub mod Laws
pub mod VersionLaws
