pub mod Holding
pub mod Same
