pub mod Laws
pub mod Theorem
pub mod Cases
