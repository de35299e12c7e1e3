pub mod Verdict
pub mod Reading
pub mod Taking
pub mod Leaving
pub mod Peers
