pub mod Text
pub mod Trial
