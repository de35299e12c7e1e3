pub mod Order
pub mod Places
pub mod Kept
pub mod Sets
pub mod Since
