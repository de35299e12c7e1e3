pub mod Rows
pub mod Trace
pub mod Alone
pub mod Qmi
pub mod Mbim
pub mod Laws
