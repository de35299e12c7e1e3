pub mod Clients
pub mod Lasting
pub mod Events
pub mod Standing
pub mod Meets
pub mod Limit
