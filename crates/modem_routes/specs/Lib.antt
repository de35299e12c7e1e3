pub mod Routes
pub mod Reaching
