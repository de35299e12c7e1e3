pub mod Tables
pub mod Nearer
pub mod Keeping
pub mod Telling
