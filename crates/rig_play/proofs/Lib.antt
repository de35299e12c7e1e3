pub mod Sent
pub mod Taking
pub mod Turning
pub mod Beginning
pub mod Short
pub mod Naming
pub mod Opened
pub mod Halting
