pub mod Laws
pub mod Free
