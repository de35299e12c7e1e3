pub mod Record
pub mod Events
pub mod Hub
pub mod One
