pub mod Frames
pub mod Mats
pub mod Pads
pub mod Told
