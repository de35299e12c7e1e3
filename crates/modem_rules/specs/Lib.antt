pub mod Kinds
pub mod Rules
pub mod Values
pub mod Lists
pub mod Reading
pub mod Answers
pub mod Examples
