pub mod Ride
pub mod Torn
