pub mod Complaints
pub mod Ids
