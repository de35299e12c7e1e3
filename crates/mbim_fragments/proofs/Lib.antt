pub mod Joining
pub mod Assembling
pub mod Runs
pub mod Pieces
pub mod Filling
pub mod Cutting
pub mod Standing
pub mod Sizes
