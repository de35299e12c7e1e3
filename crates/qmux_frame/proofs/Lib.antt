pub mod Replies
pub mod Padding
pub mod Written
pub mod Framed
