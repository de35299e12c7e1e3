pub mod Lines
pub mod Playing
pub mod Begun
pub mod Stopping
