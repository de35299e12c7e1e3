pub mod Fitting
pub mod Meeting
pub mod Noted
pub mod Sound
pub mod Stopping
pub mod Fronts
