pub mod Calls
pub mod Alive
pub mod Kids
pub mod Made
pub mod Laws
pub mod Examples
