pub mod Requests
pub mod Carried
pub mod Session
pub mod Peer
pub mod Examples
