pub mod Ready
pub mod Messages
pub mod Running
pub mod Stage
