pub mod World
pub mod Chains
pub mod TwoDevices
