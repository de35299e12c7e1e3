pub mod Named
pub mod Heard
pub mod Rooms
pub mod Regular
pub mod Tables
