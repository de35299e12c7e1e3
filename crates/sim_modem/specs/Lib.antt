pub mod Sim
pub mod Laws
pub mod Examples
