pub mod Qmi
pub mod Mbim
