pub mod Ends
pub mod Forms
pub mod Opened
pub mod Several
pub mod Told
