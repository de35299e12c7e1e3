pub mod Splitting
pub mod Going
pub mod Acting
pub mod Stopping
pub mod Arriving
