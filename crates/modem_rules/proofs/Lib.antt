pub mod Continued
pub mod Uuids
pub mod Same
