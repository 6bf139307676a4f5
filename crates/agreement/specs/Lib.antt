pub mod Reading
pub mod Calls
pub mod Agreed
pub mod Torn
pub mod Balance
