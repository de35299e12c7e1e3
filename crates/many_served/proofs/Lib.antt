pub mod Meets
pub mod Ends
