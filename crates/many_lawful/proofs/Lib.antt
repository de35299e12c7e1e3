pub mod Seats
pub mod Alone
pub mod Texts
pub mod Standing
pub mod Lawful
