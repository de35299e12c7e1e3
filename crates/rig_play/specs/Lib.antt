pub mod Play
pub mod Numbers
pub mod Timing
pub mod Qmi
pub mod Mbim
pub mod Runs
