pub mod Rode
pub mod Bounds
