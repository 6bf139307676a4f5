pub mod Rules
pub mod Forms
pub mod Laws
pub mod Tables
pub mod Data
pub mod Replies
pub mod Lent
