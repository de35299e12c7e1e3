pub mod Files
pub mod Following
pub mod Hearing
pub mod Lines
pub mod Plan
pub mod Session
