pub mod Table
pub mod Places
pub mod Hearing
pub mod Lends
