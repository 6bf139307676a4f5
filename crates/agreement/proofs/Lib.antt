pub mod Laws
pub mod Theorem
pub mod Torn
pub mod Balance
