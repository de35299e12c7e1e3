pub mod Chain
pub mod Requests
pub mod Numbers
