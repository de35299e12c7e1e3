pub mod Profile
pub mod Members
pub mod Limits
pub mod Parts
pub mod Values
pub mod Reading
pub mod Answers
pub mod View
