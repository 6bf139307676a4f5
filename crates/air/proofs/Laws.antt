pub mod Sound
pub mod Forms
pub mod Tables
pub mod Fresh
