pub mod Json
pub mod Answers
pub mod Nesting
pub mod Laws
pub mod Examples
pub mod Apart
pub mod Told
