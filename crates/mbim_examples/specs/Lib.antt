pub mod Story
pub mod Openings
pub mod Malformed
pub mod Answers
pub mod Fragments
pub mod Lists
pub mod Losses
pub mod Shares
