pub mod Growth
pub mod Logs
