pub mod Open
pub mod One
pub mod Sitting
pub mod Dropping
pub mod Apart
