pub mod Own
pub mod Meeting
pub mod Seated
pub mod There
pub mod Few
pub mod Places
pub mod Once
