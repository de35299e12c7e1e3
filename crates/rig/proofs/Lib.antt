pub mod Down
pub mod Running
pub mod Coming
pub mod Qmi
pub mod Mbim
pub mod Begun
pub mod Stopping
