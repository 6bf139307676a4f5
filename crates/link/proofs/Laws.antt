pub mod Opening
pub mod Lent
