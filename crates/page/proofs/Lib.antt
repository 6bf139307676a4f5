pub mod Laws
pub mod Theorems
pub mod Shades
pub mod Cases
