pub mod NoShorterWait
pub mod Shown
