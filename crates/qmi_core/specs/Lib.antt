pub mod Message
pub mod Hearing
pub mod State
pub mod Meaning
pub mod Lawful
