pub mod State
pub mod Counts
pub mod Rules
pub mod Account
pub mod View
pub mod Lent
