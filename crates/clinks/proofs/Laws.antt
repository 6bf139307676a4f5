pub mod Links
pub mod Asked
pub mod Done
