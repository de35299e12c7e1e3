pub mod Runs
pub mod Nobody
pub mod Held
pub mod Notes
