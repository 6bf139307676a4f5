pub mod Links
pub mod Asked
