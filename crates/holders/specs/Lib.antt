pub mod Grants
pub mod Rows
pub mod Kept
pub mod Calls
pub mod Laws
