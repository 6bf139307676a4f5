pub mod Layout
pub mod Rules
pub mod Calls
pub mod Meanings
