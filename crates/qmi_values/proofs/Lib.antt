pub mod Depth
pub mod Digits
pub mod Spellings
pub mod Breaking
pub mod Readings
pub mod Refusals
pub mod Writings
