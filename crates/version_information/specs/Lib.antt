pub mod VersionInformation
pub mod VersionLaws
