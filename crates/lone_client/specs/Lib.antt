pub mod Relay
pub mod QmiLaw
pub mod Turns
pub mod MbimLaw
