pub mod Cases
pub mod Cuts
pub mod First
pub mod Standing
