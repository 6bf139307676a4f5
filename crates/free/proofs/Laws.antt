pub mod Places
pub mod Mat
pub mod Pad
pub mod Tables
pub mod Link
