pub mod Calls
pub mod Target
pub mod Made
