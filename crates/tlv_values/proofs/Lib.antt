pub mod Numbers
pub mod Spelled
pub mod Readings
pub mod Bytes
pub mod Examples
