pub mod Solo
pub mod Part
pub mod Law
pub mod Cores
pub mod Openings
pub mod Stories
pub mod Premises
