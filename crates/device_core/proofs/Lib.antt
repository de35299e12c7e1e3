pub mod Allocation
pub mod Steps
pub mod Sending
pub mod Verdicts
pub mod Peers
