pub mod Lists
pub mod Clients
pub mod Counts
pub mod Calls
pub mod Laws
