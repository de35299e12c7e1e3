pub mod Asked
pub mod Core
pub mod Transitions
