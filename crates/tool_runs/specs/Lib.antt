pub mod Asking
pub mod Qmi
pub mod Mbim
pub mod Tunnel
pub mod Json
pub mod Tables
pub mod Describing
pub mod Calling
