pub mod Goes
pub mod Forms
pub mod Supply
pub mod Events
pub mod Waiting
pub mod Rows
pub mod First
pub mod Bytes
