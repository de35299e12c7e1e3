pub mod Requests
pub mod Session
pub mod Hearing
pub mod Peer
pub mod Examples
