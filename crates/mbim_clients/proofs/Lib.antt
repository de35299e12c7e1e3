pub mod Requests
pub mod Heard
pub mod Commands
pub mod Sent
pub mod Whole
pub mod Written
