pub mod Printed
pub mod Held
pub mod Qmi
pub mod Mbim
pub mod Carried
