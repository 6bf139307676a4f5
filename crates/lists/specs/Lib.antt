pub mod Runs
pub mod Account
pub mod View
