pub mod Growing
pub mod Ends
pub mod Sending
pub mod Passing
pub mod Following
pub mod GoesOn
pub mod Alone
