pub mod Twice
pub mod QmiRuns
pub mod QmiServing
pub mod QmiLaw
pub mod MbimRuns
pub mod MbimServing
pub mod MbimLaw
