pub mod Script
pub mod Hearing
pub mod Peer
