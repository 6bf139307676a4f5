pub mod Values
pub mod Reading
pub mod Writing
pub mod Bytes
