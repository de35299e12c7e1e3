pub mod Requests
pub mod Session
pub mod Hearing
pub mod Sending
pub mod Verdict
pub mod Peer
