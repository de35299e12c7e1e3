pub mod Placed
pub mod Order
pub mod Names
pub mod Choices
