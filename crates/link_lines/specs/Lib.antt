pub mod Lines
pub mod Laws
pub mod Directions
pub mod Examples
