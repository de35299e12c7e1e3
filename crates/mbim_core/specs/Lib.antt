pub mod Answer
pub mod State
pub mod Meaning
pub mod Hand
pub mod Told
pub mod Kept
pub mod Lawful
pub mod Asks
