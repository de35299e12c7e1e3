pub mod Framing
pub mod Cutting
pub mod Reading
