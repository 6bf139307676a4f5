pub mod Frames
pub mod Mats
pub mod Pads
