pub mod Ascii
pub mod Bytes
pub mod Buffers
