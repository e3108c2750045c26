pub mod Bytes
pub mod KindLaws
pub mod Address
pub mod Records
pub mod Tests
pub mod Defaults
