pub mod Client
pub mod Side
pub mod Requests
pub mod Replies
pub mod Traffic
pub mod Commands
pub mod Hearing
