pub mod Complaints
pub mod Statuses
