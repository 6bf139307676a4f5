pub mod Cases
pub mod Torn
pub mod Account
