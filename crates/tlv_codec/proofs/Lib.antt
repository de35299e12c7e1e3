pub mod Texts
pub mod Places
pub mod Reading
pub mod Looking
