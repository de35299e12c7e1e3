pub mod Asked
pub mod Traffic
pub mod Core
pub mod Transitions
