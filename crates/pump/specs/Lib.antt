pub mod Beginning
pub mod Reading
pub mod Writes
pub mod Stream
pub mod Writing
pub mod Laws
pub mod Node
pub mod Examples
