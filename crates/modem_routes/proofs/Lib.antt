pub mod Coming
pub mod Stopping
