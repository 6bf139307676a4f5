pub mod Devices
pub mod Calls
