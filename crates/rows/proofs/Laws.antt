pub mod Changed
pub mod Cells
pub mod Places
