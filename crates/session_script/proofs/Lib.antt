pub mod Scripts
pub mod Going
pub mod Peers
