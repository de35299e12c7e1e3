pub mod Elements
pub mod Escapes
