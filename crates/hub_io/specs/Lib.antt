pub mod Record
pub mod Events
pub mod Hub
pub mod Clients
pub mod Notes
