pub mod Made
pub mod Linked
