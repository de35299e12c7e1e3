pub mod Fragments
pub mod Hearing
pub mod Peers
pub mod Sending
pub mod Steps
