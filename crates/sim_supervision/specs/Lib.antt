pub mod Words
pub mod Supervision
pub mod Once
pub mod Laws
