pub mod Requests
pub mod Answers
pub mod Session
pub mod Hearing
pub mod Sending
pub mod Peer
