pub mod Carrying
pub mod Cutting
pub mod Examples
