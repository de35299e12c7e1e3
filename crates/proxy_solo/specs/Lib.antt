pub mod Alone
pub mod Answers
pub mod Solo
pub mod Part
pub mod Law
pub mod Cores
