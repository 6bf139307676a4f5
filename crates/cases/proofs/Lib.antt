pub mod Cases
pub mod Decoding
pub mod Torn
pub mod Account
