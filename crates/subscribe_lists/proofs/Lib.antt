pub mod Adding
pub mod Events
pub mod Orders
pub mod Sweeping
pub mod Unread
