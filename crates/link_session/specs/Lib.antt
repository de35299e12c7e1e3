pub mod Marks
pub mod Waiting
pub mod Asking
pub mod Hearing
pub mod Sending
pub mod Peer
