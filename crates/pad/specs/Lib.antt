pub mod Window
pub mod Rules
pub mod View
