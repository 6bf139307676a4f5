pub mod Count
pub mod Invariant
pub mod Base
pub mod Unique
pub mod Keep
pub mod Reads
pub mod Carried
