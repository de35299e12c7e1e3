pub mod Requests
pub mod Replies
pub mod Host
pub mod Turns
pub mod Ruled
pub mod Keeping
pub mod Laws
pub mod Examples
