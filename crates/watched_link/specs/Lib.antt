pub mod Notes
pub mod Calls
