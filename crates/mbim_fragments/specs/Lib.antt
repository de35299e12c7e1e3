pub mod Runs
pub mod Assembling
pub mod Splitting
pub mod Laws
pub mod Examples
