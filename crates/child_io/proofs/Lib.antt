pub mod Alive
pub mod Stops
pub mod Started
pub mod Notes
