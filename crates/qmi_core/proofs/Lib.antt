pub mod Granted
pub mod Inside
pub mod Forwards
pub mod Expires
pub mod Tells
pub mod Turns
pub mod Releases
pub mod Responses
