pub mod Loops
pub mod Events
pub mod Outcomes
pub mod Encodings
pub mod Answered
