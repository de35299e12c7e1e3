pub mod Directions
pub mod Marking
pub mod Pieces
pub mod Telling
