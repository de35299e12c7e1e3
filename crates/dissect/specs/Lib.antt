pub mod Lines
pub mod Places
pub mod Qmi
pub mod Mbim
pub mod Runs
pub mod Stream
pub mod Tables
pub mod Examples
