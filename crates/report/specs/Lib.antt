pub mod Report
pub mod Accounts
