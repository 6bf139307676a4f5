pub mod Accounts
pub mod Running
