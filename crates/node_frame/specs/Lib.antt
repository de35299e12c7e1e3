pub mod Frame
pub mod Framing
pub mod Laws
pub mod Examples
