pub mod Following
pub mod Hearing
