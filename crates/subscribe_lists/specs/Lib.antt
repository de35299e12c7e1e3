pub mod ClientLists
pub mod Structures
