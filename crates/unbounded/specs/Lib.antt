pub mod Ends
pub mod Rules
pub mod Lists
