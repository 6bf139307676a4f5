pub mod Sound
pub mod Fresh
pub mod Send
pub mod Resend
pub mod Acknowledge
pub mod Tick
pub mod Calls
pub mod Messages
